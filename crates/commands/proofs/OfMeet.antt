-- `meet` refuses a family and a sector in one way, and only where some of its runs isn't done; and it writes one text.
use Rattle.std.proofs.Common.{◌≡◌, ℕ, ◌<◌, ◌^◌, inl, inr, ⊎_elim, map, List, [], ◌∷◌, ◌++◌, refl, sym, ap, subst, ◌∙◌}
use Rattle.std.specs.List.{All, AllByRecursion, AllZip, Contains, flat_map}
use Rattle.std.proofs.lemmas.List.Elements.{All-contains, All-contains_itself, recursion_from_All, Contains-append_cases, Contains-append_right}
use Rattle.ibp_base.proofs.Ascending.{same_members}
use Rattle.ibp_base.proofs.Members.{in_cases, in_head, in_map, in_none}
use Rattle.mono_order.specs.declared.limits.TheConstants.{RUN_DEGREE}
use Rattle.mono_order.specs.TermOrder.{zero_dominates}
use Rattle.module_basis.specs.PlainRun as run
use Rattle.module_basis.proofs.RunEnds.{RunsTo-unique}
use Rattle.sector_lattice.specs.declared.sector.Sector.{Sector}
use Rattle.sector_lattice.specs.Sectors.{sector_cmp}
use Rattle.sector_lattice.specs.Orders.{sector_cmp_total}
use Rattle.family.specs.FamilyData.{FamilyData}
use Rattle.family.specs.Within.{DataWithin}
use Rattle.family.specs.declared.parts.StrippedField.{StrippedField}
use Rattle.sector_module.specs.Factors.{sector_generators, sector_pair_order}
use Rattle.sector_module.proofs.OneBasis.{one_basis}
use Rattle.meet_module.specs.MeetRuns.{IsNotDone}
use Rattle.meet_module.proofs.OneEnd.{one_end}
use Rattle.system_text.specs.declared.value.SectorBlock.{SectorBlock}
use Rattle.system_text.specs.Systems.{block_text}
use Rattle.commands.specs.Meet.{TangentEndsSo, IsTangentOf, AreMeetSectors, MeetEndsSo, IsMet, HasMeet, IsBlockOf, IsMeetText, StopsAt, IsFirstStop, StopsSo, RefusesMeet}
use Rattle.commands.specs.declared.status.Status.{Status}
use Rattle.commands.specs.declared.status.Status.TheVariants.{Done, PairsSpent, DegreeOver}
use Rattle.commands.proofs.OfPlain.{same_sector}

-- ---- one tangent module, one list of sectors, one end of each run

tangent_once : (family : FamilyData) (first second : run.RunEnd) → TangentEndsSo family first → TangentEndsSo family second → first ≡ second
tangent_once family first second one other = RunsTo-unique zero_dominates (sector_pair_order family.baikov family.n 0 family.budget) RUN_DEGREE (sector_generators family.baikov family.n 0) family.budget.pairs first second one other

one_tangent : (family : FamilyData) (first second : List StrippedField) → DataWithin family → IsTangentOf family first → IsTangentOf family second → first ≡ second
one_tangent family first second within one other = one_basis family.baikov family.n 0 within.few_variables within.polynomial.variables first second one.basis other.basis

same_numbers : (s t : List Sector) → map (λ sector. sector.0) s ≡ map (λ sector. sector.0) t → s ≡ t
same_numbers [] [] e = refl
same_numbers [] (y ∷ t) e = absurd (let no : ⊥ = cc in no)
same_numbers (x ∷ s) [] e = absurd (let no : ⊥ = cc in no)
same_numbers (x ∷ s) (y ∷ t) e =
    let heads : x.0 ≡ y.0 = cc in
    let tails : map (λ (sector : Sector). sector.0) s ≡ map (λ (sector : Sector). sector.0) t = cc in
    λ i. same_sector x y heads i ∷ same_numbers s t tails i

one_list : (n number : ℕ) (first second : List Sector) → AreMeetSectors n number first → AreMeetSectors n number second → first ≡ second
one_list n number first second one other =
    let above : one.above ≡ other.above =
    same_members sector_cmp sector_cmp_total one.above other.above one.supersectors.ascending other.supersectors.ascending
    (λ s c. (other.supersectors.members s).1 ((one.supersectors.members s).0 c)) (λ s c. (one.supersectors.members s).1 ((other.supersectors.members s).0 c))
    in
    same_numbers first second (one.all ∙ ap (λ (l : List ℕ). l ++ number ∷ []) above ∙ sym other.all)

-- each of the sectors is one of the family's
below_list : (n number : ℕ) (sectors : List Sector) → AreMeetSectors n number sectors → (sector : Sector) → Contains sectors sector → sector.0 < 2 ^ n
below_list n number sectors are sector c =
    ⊎_elim (λ (in_above : Contains are.above sector.0). ((are.supersectors.members sector.0).0 in_above).0)
    (λ (own : Contains (number ∷ []) sector.0). subst (λ k. k < 2 ^ n) (in_one number sector.0 own) are.within)
    (Contains-append_cases are.above (number ∷ []) sector.0 (subst (λ (l : List ℕ). Contains l sector.0) are.all (in_map (λ (s : Sector). s.0) sectors sector c)))
  where
    in_one : (x y : ℕ) → Contains (x ∷ []) y → x ≡ y
    in_one x y c = ⊎_elim (λ (same : x ≡ y). same) (λ (none : Contains [] y). absurd (in_none y none)) (in_cases x [] y c)

pub sectors_within : (n number : ℕ) (sectors : List Sector) → AreMeetSectors n number sectors → All (λ (sector : Sector). sector.0 < 2 ^ n) sectors
sectors_within n number sectors are = λ k d below. below_list n number sectors are _ (All-contains_itself sectors k d below)

end_once : (family : FamilyData) (tangent : List StrippedField) (sector : Sector) (first second : run.RunEnd) → DataWithin family → sector.0 < 2 ^ family.n
    → MeetEndsSo family tangent sector first → MeetEndsSo family tangent sector second → first ≡ second
end_once family tangent sector first second within small one other =
    one_end family.baikov family.n sector.0 within.few_variables within.polynomial.variables small family.budget tangent first second one other

-- where the runs of a sector stop, they are not done
stops_unmet : (family : FamilyData) (tangent : List StrippedField) (sector : Sector) (end : run.RunEnd) → DataWithin family → sector.0 < 2 ^ family.n → IsNotDone end → MeetEndsSo family tangent sector end
    → IsMet family tangent sector → ⊥
stops_unmet family tangent sector end within small stops ends met =
    subst IsNotDone (end_once family tangent sector end (run.Done met.elements met.taken) within small ends met.ends) stops

-- ---- the first sector that stops

module _ (P : Sector → Type 0) where
  one_place : (first second more others : List Sector) (s t : Sector) → first ++ s ∷ more ≡ second ++ t ∷ others → AllByRecursion P first → AllByRecursion P second → (P s → ⊥) → (P t → ⊥) → s ≡ t
  one_place [] [] more others s t e h k not_s not_t = cc
  one_place [] (y ∷ second) more others s t e h k not_s not_t = let same : y ≡ s = cc in absurd (not_s (subst P same k.0))
  one_place (x ∷ first) [] more others s t e h k not_s not_t = let same : x ≡ t = cc in absurd (not_t (subst P same h.0))
  one_place (x ∷ first) (y ∷ second) more others s t e h k not_s not_t = let rest : first ++ s ∷ more ≡ second ++ t ∷ others = cc in one_place first second more others s t rest h.1 k.1 not_s not_t

in_parts : (before after : List Sector) (s : Sector) → Contains (before ++ s ∷ after) s
in_parts before after s = Contains-append_right before (s ∷ after) s (in_head s after s refl)

one_stop : (family : FamilyData) (number : ℕ) (s t : Sector) (first second : run.RunEnd) → DataWithin family → IsFirstStop family number s first → IsFirstStop family number t second → (s ≡ t) × (first ≡ second)
one_stop family number s t first second within one other =
    let tangent = one_tangent family one.tangent other.tangent within one.is_tangent other.is_tangent in
    let sectors = one_list family.n number one.sectors other.sectors one.are_sectors other.are_sectors in
    let moved : StopsAt family one.tangent one.sectors t second = subst (λ (l : List StrippedField). StopsAt family l one.sectors t second) (sym tangent) (subst (λ (l : List Sector). StopsAt family other.tangent l t second) (sym sectors) other.at) in
    let a = one.at in
    let small_s = below_list family.n number one.sectors one.are_sectors s (subst (λ (l : List Sector). Contains l s) (sym a.parts) (in_parts a.before a.after s)) in
    let small_t = below_list family.n number one.sectors one.are_sectors t (subst (λ (l : List Sector). Contains l t) (sym moved.parts) (in_parts moved.before moved.after t)) in
    let same : s ≡ t =
    one_place (IsMet family one.tangent) a.before moved.before a.after moved.after s t (sym a.parts ∙ moved.parts) (recursion_from_All (IsMet family one.tangent) a.before a.met)
    (recursion_from_All (IsMet family one.tangent) moved.before moved.met) (stops_unmet family one.tangent s first within small_s a.stops a.ends) (stops_unmet family one.tangent t second within small_t moved.stops moved.ends)
    in
    (same, end_once family one.tangent s first second within small_s a.ends (subst (λ (u : Sector). MeetEndsSo family one.tangent u second) (sym same) moved.ends))

-- one way of refusing
one_way : (family : FamilyData) (number : ℕ) (s t : Sector) (first second : run.RunEnd) → DataWithin family → IsNotDone first → IsNotDone second → StopsSo family number s first → StopsSo family number t second → (s ≡ t) × (first ≡ second)
one_way family number s t first second within stops also (inl one) (inl other) = (same_sector s t (one.0 ∙ sym other.0), tangent_once family first second one.1 other.1)
one_way family number s t first second within stops also (inl one) (inr other) =
    let done = other.is_tangent in absurd (subst IsNotDone (tangent_once family first (run.Done done.elements done.taken) one.1 done.done) stops)
one_way family number s t first second within stops also (inr one) (inl other) =
    let done = one.is_tangent in absurd (subst IsNotDone (tangent_once family second (run.Done done.elements done.taken) other.1 done.done) also)
one_way family number s t first second within stops also (inr one) (inr other) = one_stop family number s t first second within one other

not_stopped : (family : FamilyData) (number : ℕ) (s : Sector) (end : run.RunEnd) → DataWithin family → IsNotDone end → HasMeet family number → StopsSo family number s end → ⊥
not_stopped family number s end within stops met (inl one) =
    let done = met.is_tangent in subst IsNotDone (tangent_once family end (run.Done done.elements done.taken) one.1 done.done) stops
not_stopped family number s end within stops met (inr one) =
    let tangent = one_tangent family one.tangent met.tangent within one.is_tangent met.is_tangent in
    let sectors = one_list family.n number one.sectors met.sectors one.are_sectors met.are_sectors in
    let inside : Contains one.sectors s = subst (λ (l : List Sector). Contains l s) (sym one.at.parts) (in_parts one.at.before one.at.after s) in
    let own : IsMet family met.tangent s = All-contains (IsMet family met.tangent) met.sectors s met.met (subst (λ (l : List Sector). Contains l s) sectors inside) in
    stops_unmet family one.tangent s end within (below_list family.n number one.sectors one.are_sectors s inside) stops one.at.ends
    (subst (λ (l : List StrippedField). IsMet family l s) (sym tangent) own)

pub meet_not_refused : (family : FamilyData) (number : ℕ) (status : Status) → DataWithin family → HasMeet family number → RefusesMeet family number status → ⊥
meet_not_refused family number (PairsSpent sector) within met refused = not_stopped family number sector run.PairsSpent within tt met refused
meet_not_refused family number (DegreeOver sector) within met refused = not_stopped family number sector run.DegreeOver within tt met refused
meet_not_refused family number status within met refused = refused

status_at : Sector → run.RunEnd → Status
status_at sector (run.Done elements taken) = Done
status_at sector run.PairsSpent = PairsSpent sector
status_at sector run.DegreeOver = DegreeOver sector

-- a status by which `meet` refuses is how some run of a sector ends
record IsStop (family : FamilyData) (number : ℕ) (status : Status) : Type 0 where
  sector : Sector
  end : run.RunEnd
  stops : IsNotDone end
  so : StopsSo family number sector end
  is : status ≡ status_at sector end

stop_of : (family : FamilyData) (number : ℕ) (status : Status) → RefusesMeet family number status → IsStop family number status
unfolding status_at
stop_of family number (PairsSpent sector) refused = record { sector = sector; end = run.PairsSpent; stops = tt; so = refused; is = refl }
stop_of family number (DegreeOver sector) refused = record { sector = sector; end = run.DegreeOver; stops = tt; so = refused; is = refl }
stop_of family number status refused = absurd refused

pub meet_once : (family : FamilyData) (number : ℕ) (first second : Status) → DataWithin family → RefusesMeet family number first → RefusesMeet family number second → first ≡ second
meet_once family number first second within refused also =
    let a = stop_of family number first refused in
    let b = stop_of family number second also in
    let same = one_way family number a.sector b.sector a.end b.end within a.stops b.stops a.so b.so in
    a.is ∙ (λ i. status_at (same.0 i) (same.1 i)) ∙ sym b.is

-- ---- one text

one_blocks : (family : FamilyData) (sectors : List Sector) (first second : List SectorBlock) → DataWithin family → AllZip (IsBlockOf family) sectors first → AllZip (IsBlockOf family) sectors second → first ≡ second
one_blocks family [] [] [] within h k = refl
one_blocks family [] [] (y ∷ second) within h k = absurd k
one_blocks family [] (x ∷ first) second within h k = absurd h
one_blocks family (s ∷ sectors) [] second within h k = absurd h
one_blocks family (s ∷ sectors) (x ∷ first) [] within h k = absurd k
one_blocks family (s ∷ sectors) (x ∷ first) (y ∷ second) within h k =
    let fields : x.fields ≡ y.fields = one_basis family.baikov family.n s.0 within.few_variables within.polynomial.variables x.fields y.fields h.0.basis k.0.basis in
    let sector : x.sector ≡ y.sector = h.0.same ∙ sym k.0.same in
    let head : x ≡ y = λ i. record { sector = sector i; fields = fields i } in
    λ i. head i ∷ one_blocks family sectors first second within h.1 k.1 i

pub one_meet_text : (family : FamilyData) (number : ℕ) (text other : List ℕ) → DataWithin family → IsMeetText family number text → IsMeetText family number other → text ≡ other
one_meet_text family number text other within first second =
    let sectors = one_list family.n number first.of.sectors second.of.sectors first.of.are_sectors second.of.are_sectors in
    let moved : AllZip (IsBlockOf family) first.of.sectors second.blocks.blocks = subst (λ (l : List Sector). AllZip (IsBlockOf family) l second.blocks.blocks) (sym sectors) second.blocks.bases in
    first.blocks.is ∙ ap (flat_map block_text) (one_blocks family first.of.sectors first.blocks.blocks second.blocks.blocks within first.blocks.bases moved) ∙ sym second.blocks.is
