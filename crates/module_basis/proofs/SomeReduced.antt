-- From a basis to the reduced one, as functions on lists: the vectors with low leads are put in descending order, one whose
-- lead is divisible by the lead of another that stays is dropped, and the tails are divided.
use Rattle.std.proofs.Common.{◌≡◌, ℕ, suc, ◌+◌, ◌≤◌, Bool, true, false, if◌then◌else◌, Option, Some, None, ◌⊎◌, inl, inr, sum, length, List, [], ◌∷◌, ◌++◌, refl, arith}
use Rattle.std.specs.List.{All, AllByRecursion, AllZip, Contains}
use Rattle.std.specs.declared.cmp.Ordering.{Ordering}
use Rattle.std.proofs.lemmas.List.Elements.{All-contains, All-weaker, All-contains_itself, recursion_from_All, All-from_recursion}
use Rattle.ibp_algebra.specs.FormalSum.{AllKeys}
use Rattle.ibp_algebra.proofs.Combinations.{AllKeys-weaker}
use Rattle.ibp_base.proofs.Members.{in_cases, in_tail}
use Rattle.mono_order.specs.Term.{Term}
use Rattle.mono_order.specs.TermOrder.{IsTermOrder}
use Rattle.module_vec.specs.ModuleVector.{ModuleVector, lead, IsMonicVector}
use Rattle.module_vec.specs.Division.{first_divisor}
use Rattle.module_basis.specs.GroebnerBasis.{IsTailReduced, IsReducedLowBasis, low_elements}
use Rattle.module_basis.specs.Reducing.{Descends, IsSortedLow, IsKept}
use Rattle.module_basis.proofs.ReducedBases.{from_low_elements, low_from_lead, IsTailReduced-divided, low_division}
use Rattle.module_basis.proofs.Reducing.{insert_descending, Every-insert, Contains-insert, Descends-insert, kept_dropped, kept_added, length-insert, reduced_low}

descending : (Term → Term → Ordering) → List ModuleVector → List ModuleVector
descending order [] = []
descending order (g ∷ list) = insert_descending order g (descending order list)

Every-descending : (P : ModuleVector → Type 0) (order : Term → Term → Ordering) (list : List ModuleVector) → AllByRecursion P list → AllByRecursion P (descending order list)
unfolding descending
Every-descending P order [] h = tt
Every-descending P order (g ∷ list) h = Every-insert P order g (descending order list) h.0 (Every-descending P order list h.1)

Contains-descending : (order : Term → Term → Ordering) (list : List ModuleVector) (x : ModuleVector) → Contains list x → Contains (descending order list) x
unfolding descending
Contains-descending order [] x c = c
Contains-descending order (g ∷ list) x c =
    Contains-insert order g (descending order list) x
    (elim (in_cases g list x c) as (λ k. (g ≡ x) ⊎ Contains (descending order list) x) [ inl e ↦ inl e | inr k ↦ inr (Contains-descending order list x k) ])

-- a vector is put at the end, unless a lead of the list divides its lead
with_undivided : Option ModuleVector → ModuleVector → List ModuleVector → List ModuleVector
with_undivided (Some h) g list = list
with_undivided None g list = list ++ g ∷ []

-- of a descending list
minimal : List ModuleVector → List ModuleVector
minimal [] = []
minimal (g ∷ list) = with_undivided (first_divisor (minimal list) (lead g)) g (minimal list)

-- a number that no degree of the vector is above
degree_bound : (v : ModuleVector) → (limit : ℕ) × AllKeys (λ t. sum t.1 ≤ limit) v
degree_bound [] = (0, tt)
degree_bound (t ∷ v) =
    let rest = degree_bound v in
    (sum t.0.1 + rest.0, (omega arith, AllKeys-weaker (λ (u : Term). sum u.1 ≤ rest.0) (λ (u : Term). sum u.1 ≤ sum t.0.1 + rest.0) (λ u h. omega (arith, h)) v rest.1))

both_keys : (P Q : Term → Type 0) (v : ModuleVector) → AllKeys P v → AllKeys Q v → AllKeys (λ t. P t × Q t) v
both_keys P Q [] h k = tt
both_keys P Q (t ∷ v) h k = ((h.0, k.0), both_keys P Q v h.1 k.1)

module _ {variables : ℕ} {order : Term → Term → Ordering} {high : ℕ → Bool} {height : Term → ℕ} {bound : ℕ}
    (laws : IsTermOrder variables order high height bound) where
  Descends-descending : (list : List ModuleVector) → Descends order (descending order list)
  unfolding descending
  Descends-descending [] = tt
  Descends-descending (g ∷ list) = Descends-insert laws g (descending order list) (Descends-descending list)

  minimal_kept : (list : List ModuleVector) → ((x : ModuleVector) → Contains list x → IsMonicVector order variables x) → Descends order list → IsKept order list (minimal list)
  unfolding minimal with_undivided
  minimal_kept [] monic down =
      record {
        within = λ x c. c;
        divided = λ x c. absurd (omega (arith, c.1));
        ascends = λ i below j less. absurd (omega (arith, below));
        is_minimal = λ i j first second apart. absurd (omega (arith, first));
        short = omega arith;
      }
  minimal_kept (g ∷ list) monic down =
      let rest = minimal_kept list (λ x c. monic x (in_tail g list x c)) down.1 in
      elim (first_divisor (minimal list) (lead g)) as (λ o. first_divisor (minimal list) (lead g) ≡ o → IsKept order (g ∷ list) (with_undivided o g (minimal list))) [
        | Some h ↦ λ e. kept_dropped laws g list (minimal list) rest h e
        | None ↦ λ e. kept_added laws g list (minimal list) rest monic down.0 e
      ] refl

  -- what is known of a vector with a low lead
  IsLow : ModuleVector → Type 0
  IsLow g = IsMonicVector order variables g × AllKeys (λ t. high t.0 ≡ false) g

  tail_reduced : (list : List ModuleVector) → All (IsMonicVector order variables) list → (g : ModuleVector) → IsLow g → (r : ModuleVector) × IsTailReduced order variables list g r
  unfolding IsLow
  tail_reduced list monic [] h = absurd (let e = h.0.monic in omega arith)
  tail_reduced list monic (t ∷ tail) h =
      let limit = degree_bound tail in
      let divided = low_division laws list monic limit.0 tail h.0.canonical.3 h.0.terms.1 (both_keys (λ t. high t.0 ≡ false) (λ t. sum t.1 ≤ limit.0) tail h.1.1 limit.1) in
      (t ∷ divided.0, IsTailReduced-divided laws list monic limit.0 t tail divided.0 h.0.canonical h.0.terms divided.1)

  tails_reduced : (list : List ModuleVector) → All (IsMonicVector order variables) list → (part : List ModuleVector) → AllByRecursion IsLow part
      → (more : List ModuleVector) × AllZip (IsTailReduced order variables list) part more
  tails_reduced list monic [] h = ([], tt)
  tails_reduced list monic (g ∷ part) h =
      let first = tail_reduced list monic g h.0 in
      let rest = tails_reduced list monic part h.1 in
      (first.0 ∷ rest.0, (first.1, rest.1))

  length-descending : (list : List ModuleVector) → length (descending order list) ≡ length list
  unfolding descending
  length-descending [] = refl
  length-descending (g ∷ list) = omega (arith, length-insert laws g (descending order list), length-descending list)

  few_low : (b : Bool) (g : ModuleVector) (list low : List ModuleVector) → length low ≤ length list → length (if b then low else (g ∷ low)) ≤ suc (length list)
  few_low true g list low h = omega (arith, h)
  few_low false g list low h = omega (arith, h)

  length-low : (list : List ModuleVector) → length (low_elements high list) ≤ length list
  length-low [] = omega arith
  length-low (g ∷ list) = few_low (high (lead g).0) g list (low_elements high list) (length-low list)

  -- monic vectors have a reduced basis of the low members of each module whose Groebner basis they are
  pub some_reduced_low : (elements : List ModuleVector) → All (IsMonicVector order variables) elements → (reduced : List ModuleVector) × IsReducedLowBasis order variables high elements reduced
  unfolding IsLow
  some_reduced_low elements monic =
      let low = low_elements high elements in
      let sorted = descending order low in
      let in_low : (x : ModuleVector) → Contains sorted x → Contains low x =
      λ x c. All-contains (Contains low) sorted x (All-from_recursion (Contains low) sorted (Every-descending (Contains low) order low (recursion_from_All (Contains low) low (All-contains_itself low)))) c
      in
      let s : IsSortedLow order high elements sorted = record {
        descends = Descends-descending low;
        within = in_low;
        all = λ x c. Contains-descending order low x c;
        short = omega (arith, length-descending low, length-low elements);
      }
      in
      let is_low : (x : ModuleVector) → Contains sorted x → IsLow x =
      λ x c.
      let found = from_low_elements high elements x (in_low x c) in
      let own = All-contains (IsMonicVector order variables) elements x monic found.0 in
      (own, low_from_lead laws x own.canonical found.1)
      in
      let kept = minimal sorted in
      let k = minimal_kept sorted (λ x c. (is_low x c).0) s.descends in
      let kept_low : All IsLow kept = All-weaker (Contains kept) IsLow (λ x c. is_low x (k.within x c)) kept (All-contains_itself kept) in
      let tails = tails_reduced kept (All-weaker IsLow (IsMonicVector order variables) (λ x h. h.0) kept kept_low) kept (recursion_from_All IsLow kept kept_low) in
      (tails.0, λ generators basis. reduced_low laws elements sorted kept tails.0 monic s k tails.1 generators basis)
