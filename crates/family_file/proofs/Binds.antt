-- What a step that succeeds tells of the steps before it.
use Rattle.std.proofs.Common.{◌≡◌, ℕ, ◌≤◌, Bool, true, false, cond, ◌&&◌, List, [], ◌∷◌, length, Result, Ok, Err, refl, sym, ap, ◌∙◌, subst, arith, suc}
use Rattle.std.specs.Prelude.{ℤ, pos, negsuc, nat_le, int_le}
use Rattle.std.specs.List.{AllByRecursion}
use Rattle.std.proofs.lemmas.Bool.{leb-true}
use Rattle.ibp_base.proofs.Tests.{same_ok, both_true}
use Rattle.family_file.specs.declared.fault.FileFault.{FileFault}
use Rattle.family_file.specs.Reading.{◌>>=◌, collect}
use Rattle.family_file.specs.Numbers.{natural, whole}

-- the values between the steps
pub bind_ok : {A B : Type 0} (r : Result A FileFault) (f : A → Result B FileFault) (b : B) → (r >>= f) ≡ Ok b → (a : A) × ((r ≡ Ok a) × (f a ≡ Ok b))
bind_ok (Ok a) f b h = (a, (refl, h))
bind_ok (Err fault) f b h = absurd (cc)

pub if_ok : {A E : Type 0} (test : Bool) (x y : A) (fault : E) → cond test (Ok x) (Err fault) ≡ Ok y → (test ≡ true) × (x ≡ y)
if_ok true x y fault h = (refl, same_ok x y h)
if_ok false x y fault h = absurd (cc)

-- a result that stands behind a test
pub unless_ok : {A E : Type 0} (test : Bool) (r : Result A E) (fault : E) (y : A) → cond test (Err fault) r ≡ Ok y → (test ≡ false) × (r ≡ Ok y)
unless_ok true r fault y h = absurd (cc)
unless_ok false r fault y h = (refl, h)

pub where_ok : {A E : Type 0} (test : Bool) (r : Result A E) (fault : E) (y : A) → cond test r (Err fault) ≡ Ok y → (test ≡ true) × (r ≡ Ok y)
where_ok true r fault y h = (refl, h)
where_ok false r fault y h = absurd (cc)

pub natural_within : (fault : FileFault) (low high : ℕ) (z : ℤ) (n : ℕ) → natural fault low high z ≡ Ok n → (low ≤ n) × (n ≤ high)
natural_within fault low high (pos m) n h =
    let found = if_ok (nat_le low m && nat_le m high) m n fault h in
    let sides = both_true (nat_le low m) (nat_le m high) found.0 in
    let from : low ≤ m = leb-true low m sides.0 in
    let upto : m ≤ high = leb-true m high sides.1 in
    let same : m ≡ n = found.1 in
    (omega (arith, from, same), omega (arith, upto, same))
natural_within fault low high (negsuc m) n h = absurd (cc)

pub whole_within : (fault : FileFault) (low high z y : ℤ) → whole fault low high z ≡ Ok y → (int_le low y ≡ true) × (int_le y high ≡ true)
whole_within fault low high z y h =
    let found = if_ok (int_le low z && int_le z high) z y fault h in
    let sides = both_true (int_le low z) (int_le z high) found.0 in
    (ap (int_le low) (sym found.1) ∙ sides.0, ap (λ x. int_le x high) (sym found.1) ∙ sides.1)

-- what holds of whatever is read from an element holds of each value, and there are as many values
pub collect_each : {A B : Type 0} (P : B → Type 0) (read : A → Result B FileFault) → ((a : A) (b : B) → read a ≡ Ok b → P b) → (xs : List A) (ys : List B) → collect read xs ≡ Ok ys → AllByRecursion P ys
unfolding collect
collect_each P read each [] ys h = subst (AllByRecursion P) (same_ok [] ys h) tt
collect_each {A} {B} P read each (x ∷ xs) ys h =
    let first = bind_ok (read x) _ ys h in
    let second = bind_ok (collect read xs) _ ys first.1.1 in
    let joined : first.0 ∷ second.0 ≡ ys = same_ok _ _ second.1.1 in
    subst (AllByRecursion P) joined (each x first.0 first.1.0, collect_each P read each xs second.0 second.1.0)

pub collect_length : {A B : Type 0} (read : A → Result B FileFault) → (xs : List A) (ys : List B) → collect read xs ≡ Ok ys → length ys ≡ length xs
unfolding collect
collect_length read [] ys h = ap length (sym (same_ok [] ys h))
collect_length read (x ∷ xs) ys h =
    let first = bind_ok (read x) _ ys h in
    let second = bind_ok (collect read xs) _ ys first.1.1 in
    let joined : first.0 ∷ second.0 ≡ ys = same_ok _ _ second.1.1 in
    ap length (sym joined) ∙ ap suc (collect_length read xs second.0 second.1.0)
