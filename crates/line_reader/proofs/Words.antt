-- Words in front of bytes.
use Rattle.std.proofs.Common.{◌≡◌, ◌≢◌, ℕ, ◌+◌, List, [], ◌∷◌, ◌++◌, length, drop, take, Bool, true, false, refl, sym, ap, ap₂, ◌∙◌, subst}
use Rattle.std.specs.Prelude.{Option, Some, None, IfSome, IsNone, nat_eq, ◌&&◌}
use Rattle.std.specs.Option.{MatchOption}
use Rattle.std.specs.Cmp.Lexicographic.{pointwise}
use Rattle.std.proofs.lemmas.Bool.{eqb-true, eq-eqb}
use Rattle.std.proofs.lemmas.List.{take-append-drop, take_at, drop_at}
use Rattle.line_reader.specs.Fronts.{IsSomeWith}
use Rattle.line_reader.proofs.Digits.{first_passes, second_passes}

pub same_bytes : (xs ys : List ℕ) → pointwise nat_eq xs ys ≡ true → xs ≡ ys
same_bytes [] [] e = refl
same_bytes [] (y ∷ ys) e = absurd (cc)
same_bytes (x ∷ xs) [] e = absurd (cc)
same_bytes (x ∷ xs) (y ∷ ys) e =
    ap₂ (λ (b : ℕ) (bs : List ℕ). b ∷ bs) (eqb-true x y (first_passes (nat_eq x y) (pointwise nat_eq xs ys) e))
    (same_bytes xs ys (second_passes (nat_eq x y) (pointwise nat_eq xs ys) e))

pub bytes_same : (xs : List ℕ) → pointwise nat_eq xs xs ≡ true
bytes_same [] = refl
bytes_same (x ∷ xs) = ap₂ (λ (b c : Bool). b && c) (eq-eqb x x refl) (bytes_same xs)

abbrev pub Stripped : {X : Type 0} → (X → List ℕ) → List ℕ → List ℕ → Option X → Type 0
Stripped now bytes word r =
    MatchOption r (pointwise nat_eq (take (length word) bytes) word ≡ false)
    (λ x. (pointwise nat_eq (take (length word) bytes) word ≡ true) × (now x ≡ drop (length word) bytes) × (length (now x) + length word ≡ length bytes))

pub strips_found : {X : Type 0} (now : X → List ℕ) (bytes word : List ℕ) (r : Option X) → Stripped now bytes word r
    → IfSome r (λ x. bytes ≡ word ++ now x)
strips_found now bytes word None h = tt
strips_found now bytes word (Some x) h =
    sym (take-append-drop (length word) bytes) ∙ ap₂ (λ (s t : List ℕ). s ++ t) (same_bytes (take (length word) bytes) word h.0) (sym h.1)

pub strips_none : {X : Type 0} (now : X → List ℕ) (bytes word : List ℕ) (r : Option X) → Stripped now bytes word r
    → IsNone r → (rest : List ℕ) → bytes ≢ word ++ rest
strips_none now bytes word None h none rest e =
    let front : take (length word) bytes ≡ word = ap (take (length word)) e ∙ take_at word rest (length word) refl in
    let same : pointwise nat_eq (take (length word) bytes) word ≡ true = ap (λ (t : List ℕ). pointwise nat_eq t word) front ∙ bytes_same word in
    absurd (cc)
strips_none now bytes word (Some x) h none rest e = absurd (cc)

pub strips_reads : {X : Type 0} (now : X → List ℕ) (bytes word : List ℕ) (r : Option X) → Stripped now bytes word r
    → (rest : List ℕ) → bytes ≡ word ++ rest → IsSomeWith r (λ x. now x ≡ rest)
strips_reads now bytes word None h rest e = strips_none now bytes word None h refl rest e
strips_reads now bytes word (Some x) h rest e = h.1 ∙ ap (drop (length word)) e ∙ drop_at word rest (length word) refl

-- what holds of a result that is there
pub not_none : {X : Type 0} (o : Option X) (P : X → Type 0) → IsSomeWith o P → o ≡ None → ⊥
not_none None P h e = h
not_none (Some x) P h e = cc

pub some_holds : {X : Type 0} (o : Option X) (P : X → Type 0) (x : X) → IsSomeWith o P → o ≡ Some x → P x
some_holds None P x h e = absurd h
some_holds (Some y) P x h e = let same : y ≡ x = cc in subst P same h

pub if_holds : {X : Type 0} (o : Option X) (P : X → Type 0) (x : X) → IfSome o P → o ≡ Some x → P x
if_holds None P x h e = absurd (cc)
if_holds (Some y) P x h e = let same : y ≡ x = cc in subst P same h
