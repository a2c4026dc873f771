-- The books of a sound state beside the families that meet the plan's equation.
use Rattle.std.proofs.Common.{◌≡◌, ◌⊎◌, ℕ, zero, suc, ◌+◌, ◌^◌, ◌<◌, ◌≤◌, List, [], ◌∷◌, length, refl, sym, ◌∙◌, ap, subst, inl, inr, arith}
use Rattle.std.specs.Prelude.{Contains, None, Some, Option}
use Rattle.sector_lattice.specs.declared.integral.Integral.{Integral}
use Rattle.sector_lattice.specs.Sectors.{sector_of, integral_cmp, IsProperSubsector}
use Rattle.sector_lattice.specs.Orders.{integral_cmp_total, proper_below, proper_trans, sector_below}
use Rattle.relay_core.specs.declared.event.Holding.{Holding}
use Rattle.relay_core.specs.Family.{TailRelation, book, IsReached, IsTail, ComesFrom, MeetsEquation, AreLawful}
use Rattle.relay_core.specs.Relay.{Progress, IsHeldBy, holder_of, CanBeTaken, AllDone}
use Rattle.relay_core.specs.Facts.{LieBetween, IsHeldOrDone, IsFinal, GoesOn}
use Rattle.ibp_base.proofs.Members.{each_or, number_in}
use Rattle.ibp_base.proofs.Ascending.{same_members}
use Rattle.relay_core.proofs.Counts.{number_below}
use Rattle.relay_core.proofs.SectorBooks.{reached_by, a_member, same_book}
use Rattle.relay_core.proofs.Sound.{IsRipe, Cause, IsWorked, IsAtWork, IsSound, run, book_stays}

module _ (tails : TailRelation) (n : ℕ) (lawful : AreLawful tails n) (targets : List Integral) (opened : (t : Integral) → Contains targets t → length t ≡ n) where
  -- an integral of a family that meets the equation has n powers
  family_powers : (family : List Integral) → MeetsEquation tails targets family → (t : Integral) → Contains family t → length t ≡ n
  family_powers family meets t inside =
      elim ((meets.members t).0 inside) [
        | inl target ↦ opened t target
        | inr from ↦ lawful.powers from.sector (book from.sector family) from.tail.all from.tail.named t from.tail.among
      ]

  -- such an integral's sector is below 2 ^ n
  in_bound : (t : Integral) → length t ≡ n → sector_of t < 2 ^ n
  in_bound t long = subst (λ m. sector_of t < 2 ^ m) long (sector_below t)

  -- what tails of one sector by two families with one book there are
  tail_along : (first second : List Integral) (sector : ℕ) (t : Integral) → book sector first ≡ book sector second → IsTail tails first sector t → IsTail tails second sector t
  tail_along first second sector t same tail = record {
    reached = λ none. tail.reached (same ∙ none);
    all = tail.all;
    named = subst (λ xs. tails sector xs tail.all) same tail.named;
    among = tail.among;
  }

  from_along : (first second : List Integral) (t : Integral) → ((sector : ℕ) → IsProperSubsector (sector_of t) sector → book sector first ≡ book sector second) → ComesFrom tails first t → ComesFrom tails second t
  from_along first second t same from = record { sector = from.sector; above = from.above; tail = tail_along first second from.sector t (same from.sector from.above) from.tail }

  -- ---- at most one family meets the equation
  module _ (first second : List Integral) (one : MeetsEquation tails targets first) (two : MeetsEquation tails targets second) where
    across : (left right : List Integral) → MeetsEquation tails targets left → MeetsEquation tails targets right → (t : Integral) → ((sector : ℕ) → IsProperSubsector (sector_of t) sector → book sector left ≡ book sector right) → Contains left t → Contains right t
    across left right meets also t same inside =
        elim ((meets.members t).0 inside) [
          | inl target ↦ (also.members t).1 (inl target)
          | inr from ↦ (also.members t).1 (inr (from_along left right t same from))
        ]

    -- by the distance of the sector from 2 ^ n
    one_book : (distance sector : ℕ) → 2 ^ n ≤ sector + distance → book sector first ≡ book sector second
    one_book zero sector far =
        same_book sector first second one.ascends two.ascends
        (λ t inside same. absurd (let low : sector_of t < 2 ^ n = in_bound t (family_powers first one t inside) in omega arith))
        (λ t inside same. absurd (let low : sector_of t < 2 ^ n = in_bound t (family_powers second two t inside) in omega arith))
    one_book (suc distance) sector far =
        same_book sector first second one.ascends two.ascends
        (λ t inside same. across first second one two t (λ outer proper. one_book distance outer (let up : sector_of t < outer = proper_below (sector_of t) outer proper in omega arith)) inside)
        (λ t inside same. across second first two one t (λ outer proper. sym (one_book distance outer (let up : sector_of t < outer = proper_below (sector_of t) outer proper in omega arith))) inside)

    every_book : (sector : ℕ) → book sector first ≡ book sector second
    every_book sector = one_book (2 ^ n) sector (omega arith)

    pub one_family : first ≡ second
    one_family = same_members integral_cmp integral_cmp_total first second one.ascends two.ascends
        (λ t inside. across first second one two t (λ sector _. every_book sector) inside)
        (λ t inside. across second first two one t (λ sector _. sym (every_book sector)) inside)

  -- ---- the books lie within each family, and equal it in ripe sectors
  module _ (progress : Progress) (sound : IsSound tails n targets progress) where
    module _ (family : List Integral) (meets : MeetsEquation tails targets family) where
      record Agree (sector : ℕ) : Type 0 where
        within : (t : Integral) → Contains progress.books t → sector_of t ≡ sector → Contains family t
        whole : IsRipe sector progress → (t : Integral) → Contains family t → sector_of t ≡ sector → Contains progress.books t

      ripe_book : (sector : ℕ) → Agree sector → IsRipe sector progress → book sector progress.books ≡ book sector family
      ripe_book sector agree ripe = same_book sector progress.books family sound.ascends meets.ascends agree.within (agree.whole ripe)

      -- a tail that the family names of a sector that is done was posted
      posted_tail : (sector : ℕ) (t : Integral) → Agree sector → IsWorked tails progress sector → IsTail tails family sector t → Contains progress.books t
      posted_tail sector t agree worked tail =
          let same : book sector progress.books ≡ book sector family = ripe_book sector agree worked.ripe in
          let one : tail.all ≡ worked.all = lawful.one sector (book sector family) tail.all worked.all tail.named (subst (λ xs. tails sector xs worked.all) same worked.named) in
          worked.posted t (subst (λ xs. Contains xs t) one tail.among)

      whole_by : (sector : ℕ) → ((outer : ℕ) → IsProperSubsector sector outer → Agree outer) → IsRipe sector progress → (t : Integral) → sector_of t ≡ sector → ComesFrom tails family t → Contains progress.books t
      whole_by sector agrees ripe t same from =
          let proper : IsProperSubsector sector from.sector = subst (λ s. IsProperSubsector s from.sector) same from.above in
          let agree : Agree from.sector = agrees from.sector proper in
          let above : IsRipe from.sector progress = λ outer up reached. ripe outer (proper_trans sector from.sector outer proper up) reached in
          let reached : IsReached from.sector progress.books = λ none. from.tail.reached (sym (ripe_book from.sector agree above) ∙ none) in
          posted_tail from.sector t agree (sound.worked from.sector (ripe from.sector proper reached)) from.tail

      within_by : (sector : ℕ) → ((outer : ℕ) → IsProperSubsector sector outer → Agree outer) → (t : Integral) → sector_of t ≡ sector → Cause tails progress t → Contains family t
      within_by sector agrees t same cause =
          let proper : IsProperSubsector sector cause.sector = subst (λ s. IsProperSubsector s cause.sector) same cause.above in
          (meets.members t).1 (inr (record { sector = cause.sector; above = cause.above; tail = tail_along progress.books family cause.sector t (ripe_book cause.sector (agrees cause.sector proper) cause.ripe) cause.tail }))

      agree_by : (sector : ℕ) → ((outer : ℕ) → IsProperSubsector sector outer → Agree outer) → Agree sector
      agree_by sector agrees = record {
        within = λ t inside same. elim (sound.cause t inside) [ inl target ↦ (meets.members t).1 (inl target) | inr cause ↦ within_by sector agrees t same cause ];
        whole = λ ripe t inside same. elim ((meets.members t).0 inside) [ inl target ↦ sound.opened t target | inr from ↦ whole_by sector agrees ripe t same from ];
      }

      agree : (distance sector : ℕ) → 2 ^ n ≤ sector + distance → Agree sector
      agree zero sector far = record {
        within = λ t inside same. absurd (let low : sector_of t < 2 ^ n = in_bound t (sound.powers t inside) in omega arith);
        whole = λ _ t inside same. absurd (let low : sector_of t < 2 ^ n = in_bound t (family_powers family meets t inside) in omega arith);
      }
      agree (suc distance) sector far = agree_by sector (λ outer proper. agree distance outer (let up : sector < outer = proper_below sector outer proper in omega arith))

      everywhere : (sector : ℕ) → Agree sector
      everywhere sector = agree (2 ^ n) sector (omega arith)

      pub within_family : (t : Integral) → Contains progress.books t → Contains family t
      within_family t inside = (everywhere (sector_of t)).within t inside refl

      pub ripe_is_final : (sector : ℕ) → IsRipe sector progress → book sector progress.books ≡ book sector family
      ripe_is_final sector ripe = ripe_book sector (everywhere sector) ripe

    pub lie_between : LieBetween tails targets progress.books
    lie_between = record {
      opening = sound.opened;
      cause = λ t inside. elim (sound.cause t inside) [ inl target ↦ inl target | inr cause ↦ inr (record { sector = cause.sector; above = cause.above; tail = cause.tail }) ];
      family = within_family;
    }

    -- a sector that is held or done is reached
    pub reached_if : (sector : ℕ) → IsHeldOrDone sector progress → IsReached sector progress.books
    reached_if sector (inl held) = by_holder (holder_of sector progress.held) refl
      where
        by_holder : (o : Option ℕ) → holder_of sector progress.held ≡ o → IsReached sector progress.books
        by_holder None free = absurd (held free)
        by_holder (Some worker) h = (sound.held sector worker h).reached
    reached_if sector (inr done) = (sound.worked sector done).reached

    -- a sector that is reached is below 2 ^ n
    pub reached_below : (sector : ℕ) → IsReached sector progress.books → sector < 2 ^ n
    reached_below sector reached =
        let m = a_member sector progress.books reached in
        subst (λ s. s < 2 ^ n) m.same (in_bound m.integral (sound.powers m.integral m.inside))

    -- at most 2 ^ n sectors are done
    pub done_few : length progress.done ≤ 2 ^ n
    done_few = number_below progress.done (2 ^ n) sound.ordered (λ sector inside. reached_below sector (reached_if sector (inr inside)))

    -- a sector that is held or done is ripe
    pub ripe_if : (sector : ℕ) → IsHeldOrDone sector progress → IsRipe sector progress
    ripe_if sector (inl held) = by_holder (holder_of sector progress.held) refl
      where
        by_holder : (o : Option ℕ) → holder_of sector progress.held ≡ o → IsRipe sector progress
        by_holder None free = absurd (held free)
        by_holder (Some worker) h = (sound.held sector worker h).ripe
    ripe_if sector (inr done) = (sound.worked sector done).ripe

    pub final : (sector : ℕ) → IsHeldOrDone sector progress → IsFinal tails targets progress sector
    final sector taken =
        let ripe : IsRipe sector progress = ripe_if sector taken in
        record {
          family = λ family meets. ripe_is_final family meets sector ripe;
          later = λ events new runs. book_stays progress new (run tails n lawful targets progress events new sound runs).grows sector ripe;
        }

    -- where each reached sector is done, the books meet the equation
    pub closed_meets : AllDone progress → MeetsEquation tails targets progress.books
    closed_meets closed = record {
      ascends = sound.ascends;
      members = λ t. (
        λ inside. elim (sound.cause t inside) [ inl target ↦ inl target | inr cause ↦ inr (record { sector = cause.sector; above = cause.above; tail = cause.tail }) ],
        λ why. elim why [
          | inl target ↦ sound.opened t target
          | inr from ↦
              let worked : IsWorked tails progress from.sector = sound.worked from.sector (closed from.sector from.tail.reached) in
              let one : from.tail.all ≡ worked.all = lawful.one from.sector (book from.sector progress.books) from.tail.all worked.all from.tail.named worked.named in
              worked.posted t (subst (λ xs. Contains xs t) one from.tail.among)
        ],
      );
    }

    -- ---- no third case
    module _ (E : Type 0) (taken : (sector : ℕ) → CanBeTaken sector progress → E) (free : progress.held ≡ []) where
      nobody : (sector : ℕ) → holder_of sector progress.held ≡ None
      nobody sector = ap (λ held. holder_of sector held) free

      below_or_not : (a b : ℕ) → (a < b) ⊎ (b ≤ a)
      below_or_not a b = grind arith

      -- what is above is done, or a sector can be taken
      done_above : (distance sector : ℕ) → ((outer : ℕ) → 2 ^ n ≤ outer + distance → IsReached outer progress.books → E ⊎ Contains progress.done outer) → 2 ^ n ≤ sector + suc distance → E ⊎ IsRipe sector progress
      done_above distance sector below far =
          elim (each_or E (λ t. IsProperSubsector sector (sector_of t) → Contains progress.done (sector_of t)) progress.books
          (λ t inside. elim (below_or_not sector (sector_of t)) [
            | inl up ↦ elim (below (sector_of t) (omega arith) (reached_by (sector_of t) progress.books t inside refl)) [ inl e ↦ inl e | inr done ↦ inr (λ _. done) ]
            | inr down ↦ inr (λ proper. absurd (let up : sector < sector_of t = proper_below sector (sector_of t) proper in omega arith))
          ])) [
            | inl e ↦ inl e
            | inr each ↦ inr (λ outer proper reached. let m = a_member outer progress.books reached in
                subst (λ s. Contains progress.done s) m.same (each m.integral m.inside (subst (λ s. IsProperSubsector sector s) (sym m.same) proper)))
          ]

      done_or : (distance sector : ℕ) → 2 ^ n ≤ sector + distance → IsReached sector progress.books → E ⊎ Contains progress.done sector
      done_or zero sector far reached =
          let m = a_member sector progress.books reached in
          let low : sector_of m.integral < 2 ^ n = in_bound m.integral (sound.powers m.integral m.inside) in
          let same : sector_of m.integral ≡ sector = m.same in
          absurd (omega arith)
      done_or (suc distance) sector far reached =
          elim (number_in progress.done sector) [
            | inl done ↦ inr done
            | inr undone ↦ elim (done_above distance sector (done_or distance) far) [
              | inl e ↦ inl e
              | inr ripe ↦ inl (taken sector (record { reached = reached; free = nobody sector; undone = undone; above = ripe }))
            ]
          ]

      pub all_done_or : E ⊎ AllDone progress
      all_done_or =
          elim (each_or E (λ t. Contains progress.done (sector_of t)) progress.books
          (λ t inside. done_or (2 ^ n) (sector_of t) (omega arith) (reached_by (sector_of t) progress.books t inside refl))) [
            | inl e ↦ inl e
            | inr each ↦ inr (λ sector reached. let m = a_member sector progress.books reached in subst (λ s. Contains progress.done s) m.same (each m.integral m.inside))
          ]

    pub goes_on : GoesOn progress
    goes_on = by_held progress.held refl
      where
        by_held : (held : List Holding) → progress.held ≡ held → GoesOn progress
        by_held [] free = elim (all_done_or ((sector : ℕ) × CanBeTaken sector progress) (λ sector can. (sector, can)) free) [ inl can ↦ inl can | inr done ↦ inr (inr done) ]
        by_held (h ∷ held) some = inr (inl (λ none. let e : h ∷ held ≡ [] = sym some ∙ none in cc))

    -- a held sector is reached and isn't done
    pub held_open : (sector worker : ℕ) → IsHeldBy worker sector progress → AllDone progress → ⊥
    held_open sector worker h closed = let work : IsAtWork progress sector = sound.held sector worker h in work.undone (closed sector work.reached)
