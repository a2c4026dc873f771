-- Some family meets the equation of a plan: its books are made from the larger sectors down. Of each sector and its book it
-- has to be known which list is the tails, or that none is.
use Rattle.std.proofs.Common.{◌≡◌, ◌≢◌, ◌⊎◌, ℕ, zero, suc, ◌+◌, ◌^◌, ◌<◌, ◌≤◌, List, [], ◌∷◌, length, refl, sym, ◌∙◌, subst, inl, inr, arith}
use Rattle.std.specs.Prelude.{Contains, ◌↔◌}
use Rattle.sector_lattice.specs.declared.integral.Integral.{Integral}
use Rattle.sector_lattice.specs.Sectors.{sector_of, integral_cmp, Ascends, IsProperSubsector}
use Rattle.sector_lattice.specs.Orders.{integral_cmp_total, same_integrals, proper_below, sector_below}
use Rattle.relay_core.specs.Family.{TailRelation, book, IsReached, IsTail, ComesFrom, MeetsEquation, AreLawful, Adds}
use Rattle.relay_core.proofs.Adding.{sorted_none}
use Rattle.ibp_base.proofs.Members.{in_none}
use Rattle.relay_core.proofs.SectorBooks.{from_book, a_member, same_book}
use Rattle.relay_core.proofs.Told.{all_taken_in}
use Rattle.std.proofs.lemmas.List.Kept.{IsStrictlySortedBy-filter}

-- what is known of a book: integrals of one sector with n powers
pub record IsBook (n sector : ℕ) (found : List Integral) : Type 0 where
  pub some : found ≢ []
  pub ascends : Ascends found
  pub of_sector : (t : Integral) → Contains found t → sector_of t ≡ sector
  pub powers : (t : Integral) → Contains found t → length t ≡ n

later_or_same : (k s : ℕ) → k ≤ s → (suc k ≤ s) ⊎ (k ≡ s)
later_or_same k s h = grind arith

module _ (tails : TailRelation) (n : ℕ) (lawful : AreLawful tails n) (targets : List Integral) (opened : (t : Integral) → Contains targets t → length t ≡ n)
    (decided : (sector : ℕ) (found : List Integral) → IsBook n sector found → ((all : List Integral) × tails sector found all) ⊎ ((all : List Integral) → ¬ tails sector found all)) where
  -- the integral is a tail of a sector that its own lies properly in, whose number is k or more
  record ComesLate (k : ℕ) (family : List Integral) (t : Integral) : Type 0 where
    sector : ℕ
    late : k ≤ sector
    above : IsProperSubsector (sector_of t) sector
    tail : IsTail tails family sector t

  -- the equation holds as far as the sectors from k on
  record MeetsFrom (k : ℕ) : Type 0 where
    family : List Integral
    ascends : Ascends family
    powers : (t : Integral) → Contains family t → length t ≡ n
    members : (t : Integral) → Contains family t ↔ (Contains targets t ⊎ ComesLate k family t)

  along : (first second : List Integral) (sector : ℕ) (t : Integral) → book sector first ≡ book sector second → IsTail tails first sector t → IsTail tails second sector t
  along first second sector t same tail = record {
    reached = λ none. tail.reached (same ∙ none);
    all = tail.all;
    named = subst (λ xs. tails sector xs tail.all) same tail.named;
    among = tail.among;
  }

  -- no sector from 2 ^ n on is reached
  none_beyond : (family : List Integral) → ((t : Integral) → Contains family t → length t ≡ n) → (sector : ℕ) → 2 ^ n ≤ sector → IsReached sector family → ⊥
  none_beyond family powers sector far reached =
      let m = a_member sector family reached in
      let low : sector_of m.integral < 2 ^ length m.integral = sector_below m.integral in
      let bound : sector_of m.integral < 2 ^ n = subst (λ k. sector_of m.integral < 2 ^ k) (powers m.integral m.inside) low in
      let same : sector_of m.integral ≡ sector = m.same in
      omega (arith, bound, same, far)

  opened_family : MeetsFrom (2 ^ n)
  opened_family =
      let all = all_taken_in integral_cmp integral_cmp_total same_integrals targets [] (sorted_none integral_cmp integral_cmp_total) in
      let in_targets : (t : Integral) → Contains all.0 t → Contains targets t = λ t inside. elim ((all.1.members t).0 inside) [ inl none ↦ absurd (in_none t none) | inr target ↦ target ] in
      let powers : (t : Integral) → Contains all.0 t → length t ≡ n = λ t inside. opened t (in_targets t inside) in
      record {
        family = all.0;
        ascends = all.1.ascends;
        powers = powers;
        members = λ t. (
          λ inside. inl (in_targets t inside),
          λ why. elim why [ inl target ↦ (all.1.members t).1 (inr target) | inr from ↦ absurd (none_beyond all.0 powers from.sector from.late from.tail.reached) ],
        );
      }

  -- a sector that has no tails changes nothing
  kept : (k : ℕ) (up : MeetsFrom (suc k)) → ((t : Integral) → IsTail tails up.family k t → ⊥) → MeetsFrom k
  kept k up none =
      record {
        family = up.family;
        ascends = up.ascends;
        powers = up.powers;
        members = λ t. (
          λ inside. elim ((up.members t).0 inside) [
            | inl target ↦ inl target
            | inr from ↦ inr (record { sector = from.sector; late = (let late : suc k ≤ from.sector = from.late in omega (arith, late)); above = from.above; tail = from.tail })
          ],
          λ why. elim why [
            | inl target ↦ (up.members t).1 (inl target)
            | inr from ↦ elim (later_or_same k from.sector from.late) [
              | inl later ↦ (up.members t).1 (inr (record { sector = from.sector; late = later; above = from.above; tail = from.tail }))
              | inr same ↦ absurd (none t (subst (λ s. IsTail tails up.family s t) (sym same) from.tail))
            ]
          ],
        );
      }

  module _ (k : ℕ) (up : MeetsFrom (suc k)) (reached : IsReached k up.family) (all : List Integral) (named : tails k (book k up.family) all) (new : List Integral) (adds : Adds integral_cmp up.family all new) where
    lower : (t : Integral) → Contains all t → sector_of t < k
    lower t inside = proper_below (sector_of t) k (lawful.below k (book k up.family) all named t inside)

    -- the books from k on stay
    same : (sector : ℕ) → k ≤ sector → book sector up.family ≡ book sector new
    same sector late =
        same_book sector up.family new up.ascends adds.ascends
        (λ t inside _. (adds.members t).1 (inl inside))
        (λ t inside own. elim ((adds.members t).0 inside) [ inl old ↦ old | inr added ↦ absurd (let low : sector_of t < k = lower t added in let is : sector_of t ≡ sector = own in omega (arith, low, is, late)) ])

    own_tail : (t : Integral) → Contains all t → IsTail tails new k t
    own_tail t inside = along up.family new k t (same k (omega arith)) (record { reached = reached; all = all; named = named; among = inside })

    from_own : (t : Integral) → IsTail tails new k t → Contains all t
    from_own t tail =
        let back : book k new ≡ book k up.family = sym (same k (omega arith)) in
        let one : tail.all ≡ all = lawful.one k (book k up.family) tail.all all (subst (λ xs. tails k xs tail.all) back tail.named) named in
        subst (λ xs. Contains xs t) one tail.among

    added : MeetsFrom k
    added =
        record {
          family = new;
          ascends = adds.ascends;
          powers = λ t inside. elim ((adds.members t).0 inside) [ inl old ↦ up.powers t old | inr more ↦ lawful.powers k (book k up.family) all named t more ];
          members = λ t. (
            λ inside. elim ((adds.members t).0 inside) [
              | inl old ↦ elim ((up.members t).0 old) [
                | inl target ↦ inl target
                | inr from ↦ inr (record {
                  sector = from.sector;
                  late = (let late : suc k ≤ from.sector = from.late in omega (arith, late));
                  above = from.above;
                  tail = along up.family new from.sector t (same from.sector (let late : suc k ≤ from.sector = from.late in omega (arith, late))) from.tail;
                })
              ]
              | inr more ↦ inr (record { sector = k; late = omega arith; above = lawful.below k (book k up.family) all named t more; tail = own_tail t more })
            ],
            λ why. elim why [
              | inl target ↦ (adds.members t).1 (inl ((up.members t).1 (inl target)))
              | inr from ↦ elim (later_or_same k from.sector from.late) [
                | inl later ↦ (adds.members t).1 (inl ((up.members t).1 (inr (record {
                  sector = from.sector;
                  late = later;
                  above = from.above;
                  tail = along new up.family from.sector t (sym (same from.sector from.late)) from.tail;
                }))))
                | inr is ↦ (adds.members t).1 (inr (from_own t (subst (λ s. IsTail tails new s t) (sym is) from.tail)))
              ]
            ],
          );
        }

  by_tails : (k : ℕ) (up : MeetsFrom (suc k)) → IsReached k up.family
      → ((all : List Integral) × tails k (book k up.family) all) ⊎ ((all : List Integral) → ¬ tails k (book k up.family) all) → MeetsFrom k
  by_tails k up reached (inl found) =
      let all = all_taken_in integral_cmp integral_cmp_total same_integrals found.0 up.family up.ascends in
      added k up reached found.0 found.1 all.0 all.1
  by_tails k up reached (inr none) = kept k up (λ t tail. none tail.all tail.named)

  by_book : (k : ℕ) (up : MeetsFrom (suc k)) (found : List Integral) → book k up.family ≡ found → MeetsFrom k
  by_book k up [] is = kept k up (λ t tail. tail.reached is)
  by_book k up (t ∷ ts) is =
      let reached : book k up.family ≢ [] = λ none. (let clash : ◌≡◌ {A = List Integral} (t ∷ ts) [] = sym is ∙ none in cc) in
      by_tails k up reached
      (decided k (book k up.family) (record {
        some = reached;
        ascends = IsStrictlySortedBy-filter integral_cmp _ up.family up.ascends;
        of_sector = λ u inside. (from_book k up.family u inside).1;
        powers = λ u inside. up.powers u (from_book k up.family u inside).0;
      }))

  down : (distance k : ℕ) → k + distance ≡ 2 ^ n → MeetsFrom k
  down zero k e = subst MeetsFrom (let is : 2 ^ n ≡ k = omega (arith, e) in is) opened_family
  down (suc distance) k e = (let up : MeetsFrom (suc k) = down distance (suc k) (omega (arith, e)) in by_book k up (book k up.family) refl)

  pub some_family : (family : List Integral) × MeetsEquation tails targets family × ((t : Integral) → Contains family t → length t ≡ n)
  some_family =
      let whole = down (2 ^ n) 0 (omega arith) in (
        whole.family,
        record {
          ascends = whole.ascends;
          members = λ t. (
            λ inside. elim ((whole.members t).0 inside) [ inl target ↦ inl target | inr from ↦ inr (record { sector = from.sector; above = from.above; tail = from.tail }) ],
            λ why. (whole.members t).1 (elim why [ inl target ↦ inl target | inr from ↦ inr (record { sector = from.sector; late = omega arith; above = from.above; tail = from.tail }) ]),
          );
        },
        whole.powers,
      )
