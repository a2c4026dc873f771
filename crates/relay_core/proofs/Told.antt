-- A family is told by its books, and each map of books is a family's.
use Rattle.std.proofs.Common.{◌≡◌, ◌⊎◌, inl, inr, ℕ, zero, suc, ◌<◌, ◌≤◌, List, [], ◌∷◌, refl, sym, ap, ◌∙◌, subst, arith}
use Rattle.std.specs.Prelude.{Contains, ◌↔◌}
use Rattle.std.specs.declared.cmp.Ordering.{Ordering}
use Rattle.std.specs.declared.cmp.Ordering.TheVariants.{Less, Equal, Greater}
use Rattle.std.specs.Cmp.{IsTotalOrder}
use Rattle.std.specs.Ordering.{ordering_reverse}
use Rattle.std.proofs.lemmas.List.Kept.{IsStrictlySortedBy-filter}
use Rattle.std.specs.List.Sorted.{IsStrictlySortedBy}
use Rattle.std.proofs.lemmas.Map.Keys.{sorted_tail}
use Rattle.std.proofs.lemmas.Map.Lookups.{CmpEqualImpliesEq}
use Rattle.sector_lattice.specs.declared.integral.Integral.{Integral}
use Rattle.sector_lattice.specs.Sectors.{sector_of, integral_cmp, Ascends}
use Rattle.sector_lattice.specs.Orders.{integral_cmp_total, same_integrals}
use Rattle.relay_core.specs.Family.{book, unless_empty, books_of, Adds, IsMap}
use Rattle.ibp_base.proofs.Members.{in_cases, in_head, in_tail, in_none}
use Rattle.ibp_base.proofs.Ascending.{same_members, after_first}
use Rattle.relay_core.proofs.Adding.{one_of, sorted_cons, sorted_none, adds_here}
use Rattle.relay_core.proofs.SectorBooks.{in_book, from_book}

same_unless_empty : (xs ys : List Integral) → unless_empty xs ≡ unless_empty ys → xs ≡ ys
same_unless_empty [] [] h = refl
same_unless_empty [] (y ∷ ys) h = absurd (cc)
same_unless_empty (x ∷ xs) [] h = absurd (cc)
same_unless_empty (x ∷ xs) (y ∷ ys) h = cc

-- what is in one family is in another with the same books
along : (first second : List Integral) → ((sector : ℕ) → books_of first sector ≡ books_of second sector) → (t : Integral) → Contains first t → Contains second t
along first second same t inside =
    let books : book (sector_of t) first ≡ book (sector_of t) second = same_unless_empty _ _ (same (sector_of t)) in
    (from_book (sector_of t) second t (subst (λ xs. Contains xs t) books (in_book (sector_of t) first t inside refl))).0

pub told_by_books : (first second : List Integral) → Ascends first → Ascends second → ((sector : ℕ) → books_of first sector ≡ books_of second sector) → first ≡ second
told_by_books first second up vp same =
    same_members integral_cmp integral_cmp_total first second up vp (along first second same) (along second first (λ sector. sym (same sector)))

module _ {K : Type 0} (cmp : K → K → Ordering) (total : IsTotalOrder cmp) (exact : CmpEqualImpliesEq cmp) where
  abbrev TakenIn : List K → List K → Type 0
  TakenIn xs more = (new : List K) × Adds cmp xs more new

  flipped : (x t : K) → cmp x t ≡ Greater → cmp t x ≡ Less
  flipped x t e = total.antisymm t x ∙ ap ordering_reverse e

  in_front : (x : K) (xs : List K) (t : K) → IsStrictlySortedBy cmp (x ∷ xs) → cmp t x ≡ Less → Adds cmp (x ∷ xs) (t ∷ []) (t ∷ x ∷ xs)
  in_front x xs t up low = record {
    ascends = sorted_cons cmp total t (x ∷ xs) (λ y inside. elim (in_cases x xs y inside) [
      | inl same ↦ subst (λ z. cmp t z ≡ Less) same low
      | inr rest ↦ total.trans t x y low (after_first cmp x xs y up rest)
    ]) up;
    members = λ y. (
      λ inside. elim (in_cases t (x ∷ xs) y inside) [ inl same ↦ inr (in_head t [] y same) | inr rest ↦ inl rest ],
      λ why. elim why [ inl old ↦ in_tail t (x ∷ xs) y old | inr new ↦ in_head t (x ∷ xs) y (one_of t y new) ],
    );
  }

  behind : (x : K) (xs : List K) (t : K) (new : List K) → IsStrictlySortedBy cmp (x ∷ xs) → cmp x t ≡ Less → Adds cmp xs (t ∷ []) new → Adds cmp (x ∷ xs) (t ∷ []) (x ∷ new)
  behind x xs t new up low adds = record {
    ascends = sorted_cons cmp total x new (λ y inside. elim ((adds.members y).0 inside) [
      | inl old ↦ after_first cmp x xs y up old
      | inr added ↦ subst (λ z. cmp x z ≡ Less) (one_of t y added) low
    ]) adds.ascends;
    members = λ y. (
      λ inside. elim (in_cases x new y inside) [
        | inl same ↦ inl (in_head x xs y same)
        | inr more ↦ elim ((adds.members y).0 more) [ inl old ↦ inl (in_tail x xs y old) | inr added ↦ inr added ]
      ],
      λ why. elim why [
        | inl old ↦ elim (in_cases x xs y old) [ inl same ↦ in_head x new y same | inr rest ↦ in_tail x new y ((adds.members y).1 (inl rest)) ]
        | inr added ↦ in_tail x new y ((adds.members y).1 (inr added))
      ],
    );
  }

  taken_in_by : (x : K) (xs : List K) (t : K) → IsStrictlySortedBy cmp (x ∷ xs) → TakenIn xs (t ∷ []) → (o : Ordering) → cmp x t ≡ o → TakenIn (x ∷ xs) (t ∷ [])
  taken_in_by x xs t up rest Less low = (x ∷ rest.0, behind x xs t rest.0 up low rest.1)
  taken_in_by x xs t up rest Equal same = (x ∷ xs, adds_here cmp total (x ∷ xs) t up (in_head x xs t (exact x t same)))
  taken_in_by x xs t up rest Greater high = (t ∷ x ∷ xs, in_front x xs t up (flipped x t high))

  taken_in : (xs : List K) (t : K) → IsStrictlySortedBy cmp xs → TakenIn xs (t ∷ [])
  taken_in [] t up = (
    t ∷ [],
    record {
      ascends = sorted_cons cmp total t [] (λ y inside. absurd (in_none y inside)) up;
      members = λ y. (λ inside. inr inside, λ why. elim why [ inl none ↦ absurd (in_none y none) | inr inside ↦ inside ]);
    },
  )
  taken_in (x ∷ xs) t up = taken_in_by x xs t up (taken_in xs t (sorted_tail cmp x xs up)) (cmp x t) refl

  pub all_taken_in : (more xs : List K) → IsStrictlySortedBy cmp xs → TakenIn xs more
  all_taken_in [] xs up = (xs, record { ascends = up; members = λ y. (λ inside. inl inside, λ why. elim why [ inl inside ↦ inside | inr none ↦ absurd (in_none y none) ]) })
  all_taken_in (t ∷ more) xs up =
      let first = taken_in xs t up in
      let rest = all_taken_in more first.0 first.1.ascends in (
        rest.0,
        record {
          ascends = rest.1.ascends;
          members = λ y. (
            λ inside. elim ((rest.1.members y).0 inside) [
              | inl mid ↦ elim ((first.1.members y).0 mid) [ inl old ↦ inl old | inr new ↦ inr (in_head t more y (one_of t y new)) ]
              | inr new ↦ inr (in_tail t more y new)
            ],
            λ why. elim why [
              | inl old ↦ (rest.1.members y).1 (inl ((first.1.members y).1 (inl old)))
              | inr new ↦ elim (in_cases t more y new) [
                | inl same ↦ (rest.1.members y).1 (inl ((first.1.members y).1 (inr (in_head t [] y same))))
                | inr behind ↦ (rest.1.members y).1 (inr behind)
              ]
            ],
          );
        },
      )

module _ (sets : ℕ → List Integral) (map : IsMap sets) where
  -- a family of the sets of the sectors below a number
  record Below (bound : ℕ) : Type 0 where
    family : List Integral
    ascends : Ascends family
    members : (t : Integral) → Contains family t ↔ ((sector_of t < bound) × Contains (sets (sector_of t)) t)

  less_or_same : (a b : ℕ) → a < suc b → (a < b) ⊎ (a ≡ b)
  less_or_same a b h = grind arith

  below : (bound : ℕ) → Below bound
  below zero = record { family = []; ascends = sorted_none integral_cmp integral_cmp_total; members = λ t. (λ inside. absurd (in_none t inside), λ h. absurd (omega (arith, h.0))) }
  below (suc k) =
      let low = below k in
      let all = all_taken_in integral_cmp integral_cmp_total same_integrals (sets k) low.family low.ascends in
      record {
        family = all.0;
        ascends = all.1.ascends;
        members = λ t. (
          λ inside. elim ((all.1.members t).0 inside) [
            | inl old ↦ (let h = (low.members t).0 old in (omega (arith, h.0), h.1))
            | inr new ↦ (let same : sector_of t ≡ k = map.own k t new in (omega arith, subst (λ s. Contains (sets s) t) (sym same) new))
          ],
          λ h. elim (less_or_same (sector_of t) k h.0) [
            | inl less ↦ (all.1.members t).1 (inl ((low.members t).1 (less, h.1)))
            | inr same ↦ (all.1.members t).1 (inr (subst (λ s. Contains (sets s) t) same h.1))
          ],
        );
      }

  low_or_high : (a b : ℕ) → (a < b) ⊎ (b ≤ a)
  low_or_high a b = grind arith

  -- where a set has something its sector is below the bound
  in_bound : (sector : ℕ) (t : Integral) → Contains (sets sector) t → sector < map.bound
  in_bound sector t inside =
      elim (low_or_high sector map.bound) [
        | inl low ↦ low
        | inr high ↦ absurd (in_none t (subst (λ xs. Contains xs t) (map.finite sector high) inside))
      ]

  pub family_of_map : (family : List Integral) × Ascends family × ((sector : ℕ) → book sector family ≡ sets sector)
  family_of_map =
      let all = below map.bound in (
        all.family,
        all.ascends,
        λ sector. same_members integral_cmp integral_cmp_total (book sector all.family) (sets sector)
            (IsStrictlySortedBy-filter integral_cmp _ all.family all.ascends) (map.ascend sector)
            (λ t inside. let kept = from_book sector all.family t inside in subst (λ s. Contains (sets s) t) kept.1 ((all.members t).0 kept.0).1)
            (λ t inside. let same : sector_of t ≡ sector = map.own sector t inside in
            in_book sector all.family t ((all.members t).1 (subst (λ s. s < map.bound) (sym same) (in_bound sector t inside), subst (λ s. Contains (sets s) t) (sym same) inside)) same),
      )
