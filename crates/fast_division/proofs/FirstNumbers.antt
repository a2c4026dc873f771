-- What an index finds: the number of the first lead that divides a term is the place of the first vector whose lead does.
use Rattle.std.proofs.Common.{◌≡◌, ℕ, suc, ◌+◌, ◌<◌, Bool, true, false, if◌then◌else◌, Option, Some, None, length, get_or, map, List, [], ◌∷◌, sym, refl, ap, subst, ◌∙◌, arith}
use Rattle.std.specs.Prelude.{is_some}
use Rattle.mono_order.specs.Term.{Term, divides}
use Rattle.module_vec.specs.ModuleVector.{ModuleVector, lead}
use Rattle.module_vec.specs.Division.{first_divisor}
use Rattle.fast_division.specs.LeadIndex.{first_number}

pub record FoundAt (list : List ModuleVector) (t : Term) (n k : ℕ) : Type 0 where
  pub place : ℕ
  pub is : k ≡ n + place
  pub within : place < length list
  pub found : (d : ModuleVector) → first_divisor list t ≡ Some (get_or list place d)

abbrev Found : List ModuleVector → Term → ℕ → Option ℕ → Type 0
Found list t n None = first_divisor list t ≡ None
Found list t n (Some k) = FoundAt list t n k

found_later : (g : ModuleVector) (list : List ModuleVector) (t : Term) (n : ℕ) (o : Option ℕ) → divides (lead g) t ≡ false → Found list t (n + 1) o → Found (g ∷ list) t n o
found_later g list t n None other h = ap (λ b. if b then Some g else first_divisor list t) other ∙ h
found_later g list t n (Some k) other h =
    record {
      place = suc h.place;
      is = omega (arith, h.is);
      within = omega (arith, h.within);
      found = λ d. ap (λ b. if b then Some g else first_divisor list t) other ∙ h.found d;
    }

found_if : (b : Bool) (g : ModuleVector) (list : List ModuleVector) (t : Term) (n : ℕ) (o : Option ℕ) → divides (lead g) t ≡ b → Found list t (n + 1) o → Found (g ∷ list) t n (if b then Some n else o)
found_if true g list t n o here h =
    record { place = 0; is = omega arith; within = omega arith; found = λ d. ap (λ b. if b then Some g else first_divisor list t) here }
found_if false g list t n o other h = found_later g list t n o other h

found_all : (list : List ModuleVector) (t : Term) (n : ℕ) → Found list t n (first_number n (map lead list) t)
found_all [] t n = refl
found_all (g ∷ list) t n = found_if (divides (lead g) t) g list t n (first_number (n + 1) (map lead list) t) refl (found_all list t (n + 1))

pub index_none : (list : List ModuleVector) (leads : List Term) (t : Term) → leads ≡ map lead list → None ≡ first_number 0 leads t → first_divisor list t ≡ None
index_none list leads t is none = subst (Found list t 0) (sym (none ∙ ap (λ (l : List Term). first_number 0 l t) is)) (found_all list t 0)

pub index_some : (list : List ModuleVector) (leads : List Term) (t : Term) (k : ℕ) → leads ≡ map lead list → Some k ≡ first_number 0 leads t → FoundAt list t 0 k
index_some list leads t k is some = subst (Found list t 0) (sym (some ∙ ap (λ (l : List Term). first_number 0 l t) is)) (found_all list t 0)

pub index_within : (list : List ModuleVector) (t : Term) (k : ℕ) → FoundAt list t 0 k → k < length list
index_within list t k h = omega (arith, h.is, h.within)

pub index_found : (list : List ModuleVector) (t : Term) (k : ℕ) (g : ModuleVector) → FoundAt list t 0 k → g ≡ get_or list k g → first_divisor list t ≡ Some g
index_found list t k g h is =
    let at : h.place ≡ k = omega (arith, h.is) in
    h.found g ∙ ap (λ (x : ModuleVector). Some x) (ap (λ i. get_or list i g) at ∙ sym is)

-- the same of an answer that is not looked into
pub index_has_none : (list : List ModuleVector) (leads : List Term) (t : Term) (answer : Option ℕ) → leads ≡ map lead list → answer ≡ first_number 0 leads t → is_some answer ≡ false → first_divisor list t ≡ None
index_has_none list leads t None is found none = index_none list leads t is found
index_has_none list leads t (Some k) is found none = absurd (cc)

pub index_has_some : (list : List ModuleVector) (leads : List Term) (t : Term) (answer : Option ℕ) → leads ≡ map lead list → answer ≡ first_number 0 leads t → is_some answer ≡ true
    → (g : ModuleVector) × (first_divisor list t ≡ Some g)
index_has_some list leads t None is found some = absurd (cc)
index_has_some list leads t (Some k) is found some =
    let at = index_some list leads t k is found in
    (get_or list at.place [], at.found [])
