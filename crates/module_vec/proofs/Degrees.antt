-- The test for terms of too high a degree, place by place.
use Rattle.std.proofs.Common.{◌≡◌, ℕ, zero, suc, ◌+◌, ◌<◌, ◌≤◌, Bool, true, false, ◌||◌, sum, length, get_or, take, List, [], ◌∷◌, ◌++◌, sym, refl, ap, subst, ◌∙◌, arith}
use Rattle.std.specs.Prelude.{nat_lt}
use Rattle.std.proofs.lemmas.Bool.{ltb-false, lt-ltb, le-ltb}
use Rattle.std.proofs.lemmas.List.{map_more, take_more, take_all}
use Rattle.ibp_algebra.specs.FormalSum.{AllKeys}
use Rattle.ibp_algebra.proofs.ZeroDivisors.{AllKeys-append}
use Rattle.ibp_algebra.proofs.SumOfExponents.{sum-add_exponents}
use Rattle.mono_order.specs.Term.{Term, multiply_term}
use Rattle.module_vec.specs.ModuleVector.{ModuleVector, multiply_vector}
use Rattle.module_vec.specs.Division.{is_over_degree}

or_left : (a b : Bool) → a ≡ true → (a || b) ≡ true
or_left true b e = refl
or_left false b e = cc

or_right : (a b : Bool) → b ≡ true → (a || b) ≡ true
or_right true b e = refl
or_right false b e = e

neither : (a b : Bool) → (a || b) ≡ false → (a ≡ false) × (b ≡ false)
neither true b e = cc
neither false b e = (refl, e)

either_assoc : (a b c : Bool) → (a || (b || c)) ≡ ((a || b) || c)
either_assoc true b c = refl
either_assoc false b c = refl

pub is_over_degree-append : (limit : ℕ) (v w : ModuleVector) → is_over_degree limit (v ++ w) ≡ (is_over_degree limit v || is_over_degree limit w)
is_over_degree-append limit [] w = refl
is_over_degree-append limit (t ∷ v) w =
    ap (λ b. nat_lt limit (sum t.0.1) || b) (is_over_degree-append limit v w) ∙ either_assoc (nat_lt limit (sum t.0.1)) (is_over_degree limit v) (is_over_degree limit w)

-- no term is over the limit
pub AllKeys-within : (limit : ℕ) (v : ModuleVector) → is_over_degree limit v ≡ false → AllKeys (λ t. sum t.1 ≤ limit) v
AllKeys-within limit [] e = tt
AllKeys-within limit (t ∷ v) e =
    let parts = neither (nat_lt limit (sum t.0.1)) (is_over_degree limit v) e in
    (ltb-false limit (sum t.0.1) parts.0, AllKeys-within limit v parts.1)

pub within-AllKeys : (limit : ℕ) (v : ModuleVector) → AllKeys (λ t. sum t.1 ≤ limit) v → is_over_degree limit v ≡ false
within-AllKeys limit [] h = refl
within-AllKeys limit (t ∷ v) h =
    ap (λ b. b || is_over_degree limit v) (le-ltb limit (sum t.0.1) h.0) ∙ within-AllKeys limit v h.1

-- one term that is over the limit
pub over_at : (limit : ℕ) (v : ModuleVector) (i : ℕ) (item : Term × ℕ) → i < length v → item ≡ get_or v i item → limit < sum item.0.1 → is_over_degree limit v ≡ true
over_at limit [] i item below is more = absurd (omega arith)
over_at limit (t ∷ v) zero item below is more =
    or_left _ _ (lt-ltb limit (sum t.0.1) (subst (λ (u : Term × ℕ). limit < sum u.0.1) is more))
over_at limit (t ∷ v) (suc i) item below is more = or_right _ _ (over_at limit v i item (omega arith) is more)

-- one more term that is within the limit
pub within_more : (limit : ℕ) (v : ModuleVector) (i : ℕ) (item : Term × ℕ) → i < length v → item ≡ get_or v i item → sum item.0.1 ≤ limit
    → is_over_degree limit (take i v) ≡ false → is_over_degree limit (take (i + 1) v) ≡ false
within_more limit v i item below is small h =
    let last : nat_lt limit (sum item.0.1) ≡ false = le-ltb limit (sum item.0.1) small in
    ap (is_over_degree limit) (take_more v i item below ∙ ap (λ (t : Term × ℕ). take i v ++ t ∷ []) (sym is))
    ∙ is_over_degree-append limit (take i v) (item ∷ []) ∙ ap (λ b. b || (nat_lt limit (sum item.0.1) || false)) h ∙ ap (λ b. b || false) last

pub within_all : (limit : ℕ) (v : ModuleVector) (i : ℕ) → length v ≤ i → is_over_degree limit (take i v) ≡ false → is_over_degree limit v ≡ false
within_all limit v i done h = ap (is_over_degree limit) (sym (take_all i v done)) ∙ h

-- ---- the multiples of the terms

pub multiple_over_at : (limit : ℕ) (m : List ℕ) (v : ModuleVector) (i : ℕ) (item : Term × ℕ) → i < length v → item ≡ get_or v i item
    → limit < sum item.0.1 + sum m → is_over_degree limit (multiply_vector m v) ≡ true
multiple_over_at limit m [] i item below is more = absurd (omega arith)
multiple_over_at limit m (t ∷ v) zero item below is more =
    let at : limit < sum t.0.1 + sum m = subst (λ (u : Term × ℕ). limit < sum u.0.1 + sum m) is more in
    or_left _ _ (lt-ltb limit (sum (multiply_term m t.0).1) (omega (arith, at, sum-add_exponents m t.0.1)))
multiple_over_at limit m (t ∷ v) (suc i) item below is more = or_right _ _ (multiple_over_at limit m v i item (omega arith) is more)

pub multiple_more : (m : List ℕ) (v items new : ModuleVector) (i : ℕ) (item : Term × ℕ) (made : Term) → i < length v → item ≡ get_or v i item
    → made ≡ multiply_term m item.0 → new ≡ items ++ (made, item.1) ∷ [] → items ≡ multiply_vector m (take i v) → new ≡ multiply_vector m (take (i + 1) v)
multiple_more m v items new i item made below is product pushed h =
    let step : multiply_vector m (take (i + 1) v) ≡ multiply_vector m (take i v) ++ (multiply_term m item.0, item.1) ∷ [] =
    map_more _ v i item below ∙ ap (λ (t : Term × ℕ). multiply_vector m (take i v) ++ (multiply_term m t.0, t.1) ∷ []) (sym is)
    in
    pushed ∙ (λ j. h j ++ (product j, item.1) ∷ []) ∙ sym step

pub multiple_within_more : (limit : ℕ) (m : List ℕ) (v : ModuleVector) (i : ℕ) (item : Term × ℕ) → i < length v → item ≡ get_or v i item
    → sum item.0.1 + sum m ≤ limit → is_over_degree limit (multiply_vector m (take i v)) ≡ false → is_over_degree limit (multiply_vector m (take (i + 1) v)) ≡ false
multiple_within_more limit m v i item below is small h =
    let last : nat_lt limit (sum (multiply_term m item.0).1) ≡ false = le-ltb limit (sum (multiply_term m item.0).1) (omega (arith, small, sum-add_exponents m item.0.1)) in
    ap (is_over_degree limit) (map_more _ v i item below ∙ ap (λ (t : Term × ℕ). multiply_vector m (take i v) ++ (multiply_term m t.0, t.1) ∷ []) (sym is))
    ∙ is_over_degree-append limit (multiply_vector m (take i v)) ((multiply_term m item.0, item.1) ∷ [])
    ∙ ap (λ b. b || (nat_lt limit (sum (multiply_term m item.0).1) || false)) h ∙ ap (λ b. b || false) last

pub multiple_whole : (m : List ℕ) (v w : ModuleVector) (i : ℕ) → length v ≤ i → v ≡ w → multiply_vector m (take i v) ≡ multiply_vector m w
multiple_whole m v w i done is = ap (multiply_vector m) (take_all i v done ∙ is)

-- ---- a fact of each term, place by place

pub AllKeys-more : (P : Term → Type 0) (v : ModuleVector) (i : ℕ) (item : Term × ℕ) → i < length v → item ≡ get_or v i item → P item.0
    → AllKeys P (take i v) → AllKeys P (take (i + 1) v)
AllKeys-more P v i item below is here h =
    subst (AllKeys P) (sym (take_more v i item below ∙ ap (λ (t : Term × ℕ). take i v ++ t ∷ []) (sym is))) (AllKeys-append P (take i v) (item ∷ []) h (here, tt))

pub AllKeys-whole : (P : Term → Type 0) (v : ModuleVector) (i : ℕ) → length v ≤ i → AllKeys P (take i v) → AllKeys P v
AllKeys-whole P v i done h = subst (AllKeys P) (take_all i v done) h

pub AllKeys-at : (P : Term → Type 0) (v : ModuleVector) (i : ℕ) (item : Term × ℕ) → i < length v → item ≡ get_or v i item → AllKeys P v → P item.0
AllKeys-at P [] i item below is h = absurd (omega arith)
AllKeys-at P (t ∷ v) zero item below is h = subst (λ (u : Term × ℕ). P u.0) (sym is) h.0
AllKeys-at P (t ∷ v) (suc i) item below is h = AllKeys-at P v i item (omega arith) is h.1
