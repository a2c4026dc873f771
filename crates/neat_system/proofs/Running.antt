-- A relay whose sectors are worked one after another.
use Rattle.std.proofs.Common.{◌≡◌, ℕ, suc, ◌^◌, ◌≤◌, Bool, true, false, not, cond, List, [], ◌∷◌, ◌++◌, length, inl, inr, Some, None, refl, sym, ◌∙◌, ap, subst, arith, append-nil, append_assoc}
use Rattle.std.specs.Prelude.{Contains}
use Rattle.std.specs.List.Sorted.{IsStrictlySortedBy}
use Rattle.std.proofs.lemmas.Bool.{eq-eqb}
use Rattle.sector_lattice.specs.Sectors.{sector_cmp}
use Rattle.sector_lattice.specs.declared.sector.Sector.{Sector}
use Rattle.sparse_rows.specs.Rows.{is_zero_integral}
use Rattle.family.specs.Conditions.{is_zero_sector}
use Rattle.family.specs.FamilyView.{family_view}
use Rattle.family.specs.declared.family.Family.{Family}
use Rattle.relay_core.specs.Family.{book, IsReached}
use Rattle.relay_core.specs.Relay.{Progress, IsNext, Opens, Replays, holder_of, without, IsHeldBy, Finishes, Leads}
use Rattle.relay_core.specs.State.{Relay, Moves, IsStranger}
use Rattle.relay_core.specs.declared.event.Event.{Event}
use Rattle.relay_core.specs.declared.event.Event.TheVariants.{Take, Finish}
use Rattle.relay_core.specs.declared.event.Holding.{Holding}
use Rattle.relay_core.proofs.Counts.{one_more}
use Rattle.relay_core.proofs.Facts.{lie_between, done_few}
use Rattle.relay_core.proofs.Kept.{replays_more}
use Rattle.relay_core.proofs.LastEvent.{replays_none}
use Rattle.ibp_base.proofs.Members.{from_filter}
use Rattle.relay_core.proofs.SectorBooks.{a_member}
use Rattle.relay_core.proofs.Sound.{IsSound, replay_sound}
use Rattle.sector_job.specs.Candidates.{Integral}
use Rattle.family.proofs.SameFamily.{same_family, families_decide}
use Rattle.sector_job.specs.PieceLaws.{opened, lawful}
use Rattle.sector_job.specs.Results.{ResultValue, opening_of, tails_of_plan}
use Rattle.sector_job.proofs.TailsNotZero.{tails_not_zero}
use Rattle.neat_system.specs.Running.{IsUnderWay, Advances, Continues}

-- a journal goes on from itself
pub stays : (old new : List Event) → new ≡ old → Continues old new
stays old new same = ([], same ∙ sym (append-nil old))

-- and by two events
pub goes_on_twice : (old mid new : List Event) (first second : Event) → mid ≡ old ++ first ∷ [] → new ≡ mid ++ second ∷ [] → Continues old new
goes_on_twice old mid new first second one two = (first ∷ second ∷ [], two ∙ ap (λ es. es ++ second ∷ []) one ∙ append_assoc old (first ∷ []) (second ∷ []))

-- and further
pub goes_further : (old mid new : List Event) → Continues old mid → Continues mid new → Continues old new
goes_further old mid new one two = (one.0 ++ two.0, two.1 ∙ ap (λ es. es ++ two.0) one.1 ∙ append_assoc old one.0 two.0)

not_false : (b : Bool) → not b ≡ true → b ≡ false
not_false true h = absurd (let e : false ≡ true = h in cc)
not_false false h = refl

module _ (plan : Family) where
  module _ (relay : Relay Family ResultValue) (u : IsUnderWay plan relay) where
    sound : IsSound (tails_of_plan plan) plan.n (opening_of plan).targets relay.progress
    sound = replay_sound (tails_of_plan plan) plan.n (lawful plan) (opening_of plan).targets relay.journal relay.progress (opened plan) u.replays

    -- there are no more sectors than sets of variables
    pub few_done : length relay.progress.done ≤ 2 ^ plan.n
    few_done = done_few (tails_of_plan plan) plan.n (lawful plan) (opening_of plan).targets (opened plan) relay.progress sound

    not_zero_integral : (integral : Integral) → Contains relay.progress.books integral → is_zero_integral plan.zero integral ≡ false
    not_zero_integral integral inside =
        let between = lie_between (tails_of_plan plan) plan.n (lawful plan) (opening_of plan).targets (opened plan) relay.progress sound in
        elim (between.cause integral inside) [
          | inl target ↦ not_false _ (from_filter (λ t. not (is_zero_integral plan.zero t)) plan.targets integral target).1
          | inr from ↦
              let tails = from.tail.named in
              tails_not_zero (family_view plan) from.sector (book from.sector relay.progress.books) tails.outcome tails.fits tails.is_outcome integral (subst (λ (xs : List Integral). Contains xs integral) tails.are from.tail.among)
        ]

    -- a reached sector isn't zero
    pub reached_not_zero : (sector : ℕ) → IsReached sector relay.progress.books → is_zero_sector plan.zero sector ≡ false
    reached_not_zero sector reached =
        let member = a_member sector relay.progress.books reached in
        ap (is_zero_sector plan.zero) (sym member.same) ∙ not_zero_integral member.integral member.inside

  -- a relay that was just opened
  pub opens_under_way : (relay : Relay Family ResultValue) → relay.plan ≡ plan → relay.n ≡ plan.n → Opens (opening_of plan).targets relay.progress → relay.journal ≡ [] → IsUnderWay plan relay
  opens_under_way relay same powers opens fresh = record {
    plan_is = same;
    powers = powers;
    replays = subst (λ (es : List Event). Replays (tails_of_plan plan) (opening_of plan).targets es relay.progress) (sym fresh) ((replays_none (tails_of_plan plan) (opening_of plan).targets relay.progress).1 opens);
    free = opens.free;
  }

  freed : (sector : ℕ) (holding : Holding) → holding.sector.0 ≡ sector → without sector (holding ∷ []) ≡ []
  freed sector holding same = ap (λ b. cond (not b) (holding ∷ []) []) (eq-eqb _ _ same)

  module _ (old mid new : Relay Family ResultValue) (worker : ℕ) (sector : Sector) (u : IsUnderWay plan old) (takes : Moves tails_of_plan old (Take worker sector) mid) where
    next : IsNext sector.0 old.progress
    next = takes.leads.0

    pub mid_plan : mid.plan ≡ plan
    mid_plan = takes.plan ∙ u.plan_is

    pub mid_held : mid.progress.held ≡ record { sector = sector; worker = worker } ∷ []
    mid_held = ap (λ (p : Progress). p.held) takes.leads.1 ∙ ap (λ hs. hs ++ record { sector = sector; worker = worker } ∷ []) u.free

    pub mid_books : mid.progress.books ≡ old.progress.books
    mid_books = ap (λ (p : Progress). p.books) takes.leads.1

    mid_done : mid.progress.done ≡ old.progress.done
    mid_done = ap (λ (p : Progress). p.done) takes.leads.1

    mid_replays : Replays (tails_of_plan plan) (opening_of plan).targets mid.journal mid.progress
    mid_replays =
        subst (λ (es : List Event). Replays (tails_of_plan plan) (opening_of plan).targets es mid.progress) (sym takes.journal)
        (replays_more (tails_of_plan plan) (opening_of plan).targets old.journal old.progress mid.progress (Take worker sector) u.replays
        (subst (λ (p : Family). Leads (tails_of_plan p) old.progress (Take worker sector) mid.progress) u.plan_is takes.leads))

    -- the sector that was taken is held
    pub mid_holder : (place : ℕ) → place ≡ sector.0 → IsHeldBy worker place mid.progress
    mid_holder place same =
        ap (holder_of place) mid_held ∙ ap (λ b. cond b (Some worker) None) (eq-eqb _ _ (sym same))

    -- the piece of the job is no stranger
    pub no_stranger : (piece : ResultValue) (targets : List Integral) → piece.plan ≡ plan → piece.sector ≡ sector → piece.targets ≡ targets → targets ≡ book sector.0 old.progress.books
        → IsStranger same_family (λ (w : ResultValue). w.plan) (λ (w : ResultValue). w.sector.0) (λ (w : ResultValue). w.targets) piece mid → ⊥
    no_stranger piece targets of_plan of_sector for own (inl other) =
        let same : family_view piece.plan ≡ family_view mid.plan = ap family_view (of_plan ∙ sym mid_plan) in
        let clash : true ≡ false = sym ((families_decide piece.plan mid.plan).1 same) ∙ other in
        cc
    no_stranger piece targets of_plan of_sector for own (inr other) =
        other (for ∙ own ∙ (λ i. book (sym of_sector i).0 (sym mid_books i)))

    pub advances : (done : Sector) → done ≡ sector → Moves tails_of_plan mid (Finish worker done) new → Advances plan old new
    advances done same finishes =
        let leads : Finishes (tails_of_plan mid.plan) mid.progress worker done.0 new.progress = finishes.leads in
        record {
          under_way = record {
            plan_is = finishes.plan ∙ mid_plan;
            powers = finishes.n ∙ takes.n ∙ u.powers;
            replays = subst (λ (es : List Event). Replays (tails_of_plan plan) (opening_of plan).targets es new.progress) (sym finishes.journal)
                (replays_more (tails_of_plan plan) (opening_of plan).targets mid.journal mid.progress new.progress (Finish worker done) mid_replays
                (subst (λ (p : Family). Leads (tails_of_plan p) mid.progress (Finish worker done) new.progress) mid_plan finishes.leads));
            free = leads.freed ∙ ap (without done.0) mid_held ∙ freed done.0 _ (ap (λ (s : Sector). s.0) (sym same));
          };
          one_more =
              let sorted = subst (λ (ds : List ℕ). IsStrictlySortedBy sector_cmp ds) (sym mid_done) (sound old u).ordered in
              let fresh : Contains mid.progress.done done.0 → ⊥ = λ inside. next.can.undone (subst (λ (ds : List ℕ). Contains ds sector.0) mid_done (subst (λ (s : Sector). Contains mid.progress.done s.0) same inside)) in
              let more : length new.progress.done ≡ suc (length mid.progress.done) = one_more mid.progress.done new.progress.done done.0 sorted leads.done fresh in
              let kept : length mid.progress.done ≡ length old.progress.done = ap length mid_done in
              omega (arith, more, kept);
        }
