-- The two runs of a sector end in one way, and what a fault of either tells.
use Rattle.std.proofs.Common.{◌≡◌, ◌≢◌, ℕ, ◌<◌, ◌≤◌, ◌^◌, ◌↔◌, ◌⊎◌, inl, inr, Result, Ok, Err, List, refl, sym, ap, subst, ◌∙◌}
use Rattle.ibp_algebra.specs.FormalSum.{AllKeys}
use Rattle.ibp_algebra.specs.Polynomial.{Polynomial}
use Rattle.mono_order.specs.declared.limits.TheConstants.{VARIABLES, RUN_DEGREE}
use Rattle.mono_order.specs.TermOrder.{over_position, high_block}
use Rattle.module_vec.specs.ModuleVector.{ModuleVector}
use Rattle.pair_queue.specs.declared.order.PairOrder.{PairOrder}
use Rattle.module_basis.specs.PlainRun.{RunEnd, RunsTo, Done, PairsSpent, DegreeOver}
use Rattle.module_basis.specs.declared.fault.BasisFault.{BasisFault}
use Rattle.module_basis.specs.declared.fault.BasisFault.TheVariants as faults
use Rattle.module_basis.proofs.RunEnds.{RunsTo-unique}
use Rattle.family.specs.declared.parts.Budget.{Budget}
use Rattle.family.specs.declared.parts.StrippedField.{StrippedField}
use Rattle.family.specs.Shapes.{HasVariables}
use Rattle.sector_module.specs.Factors.{sector_pair_order}
use Rattle.meet_module.specs.MeetRuns.{meet_pair_order, meet_generators, stripped_generators, IsUnstrippedBasis, MeetRunEnds, StrippedRunEnds, IsStrippedEnd, IsNotDone, MeetEnds}
use Rattle.meet_module.proofs.DividedSyzygies.{one_unstripped}

module _ (p : Polynomial) (n sector : ℕ) (few : n ≤ VARIABLES) (shape : AllKeys (HasVariables n) p) (small : sector < 2 ^ n) (budget : Budget) (tangent : List StrippedField) where
  meet_once : (first second : RunEnd) → MeetRunEnds p n sector budget tangent first → MeetRunEnds p n sector budget tangent second → first ≡ second
  meet_once first second h k = RunsTo-unique high_block (meet_pair_order p n budget) RUN_DEGREE (meet_generators n sector tangent) budget.pairs first second h k

  not_done_and_done : (end : RunEnd) (elements : List ModuleVector) (taken : ℕ) → IsNotDone end → MeetRunEnds p n sector budget tangent end → MeetRunEnds p n sector budget tangent (Done elements taken) → ⊥
  not_done_and_done end elements taken stops h k = subst IsNotDone (meet_once end (Done elements taken) h k) stops

  pub one_end : (first second : RunEnd) → MeetEnds p n sector budget tangent first → MeetEnds p n sector budget tangent second → first ≡ second
  one_end first second (inl h) (inl k) = meet_once first second h.1 k.1
  one_end first second (inl h) (inr k) = absurd (not_done_and_done first k.elements k.taken h.0 h.1 k.meet)
  one_end first second (inr h) (inl k) = absurd (not_done_and_done second h.elements h.taken k.0 k.1 h.meet)
  one_end first second (inr h) (inr k) =
      let same = one_unstripped p n sector few shape small h.list k.list h.basis k.basis in
      RunsTo-unique over_position (sector_pair_order p n sector budget) RUN_DEGREE (stripped_generators sector h.list) budget.pairs first second h.ends
      (subst (λ (l : List ModuleVector). StrippedRunEnds p n sector budget l second) (sym same) k.ends)

  -- what an answer tells of the end, both ways
  pub record Tells {T : Type 0} (result : Result T BasisFault) : Type 0 where
    pub spent : result ≢ Err faults.NoMemory → (result ≡ Err faults.PairsSpent) ↔ MeetEnds p n sector budget tangent PairsSpent
    pub over : result ≢ Err faults.NoMemory → (result ≡ Err faults.DegreeOver) ↔ MeetEnds p n sector budget tangent DegreeOver

  pub done_tells : {T : Type 0} (value : T) (elements : List ModuleVector) (taken : ℕ) → MeetEnds p n sector budget tangent (Done elements taken) → Tells {T = T} (Ok value)
  done_tells value elements taken ends =
      record {
        spent = λ other. (λ e. absurd (let clash : ⊥ = cc in clash), λ k. absurd (let same = one_end (Done elements taken) PairsSpent ends k in let clash : ⊥ = cc in clash));
        over = λ other. (λ e. absurd (let clash : ⊥ = cc in clash), λ k. absurd (let same = one_end (Done elements taken) DegreeOver ends k in let clash : ⊥ = cc in clash));
      }

  pub fault_tells : {T : Type 0} (fault : BasisFault) → (fault ≡ faults.PairsSpent → MeetEnds p n sector budget tangent PairsSpent) → (fault ≡ faults.DegreeOver → MeetEnds p n sector budget tangent DegreeOver)
      → Tells {T = T} (Err fault)
  fault_tells faults.PairsSpent spent over =
      record {
        spent = λ other. (λ e. spent refl, λ k. refl);
        over = λ other. (λ e. absurd (let clash : ⊥ = cc in clash), λ k. absurd (let same = one_end PairsSpent DegreeOver (spent refl) k in let clash : ⊥ = cc in clash));
      }
  fault_tells faults.DegreeOver spent over =
      record {
        spent = λ other. (λ e. absurd (let clash : ⊥ = cc in clash), λ k. absurd (let same = one_end DegreeOver PairsSpent (over refl) k in let clash : ⊥ = cc in clash));
        over = λ other. (λ e. over refl, λ k. refl);
      }
  fault_tells faults.NoMemory spent over = record { spent = λ other. absurd (other refl); over = λ other. absurd (other refl) }

  -- what a fault of the first run tells,
  pub first_fault : {T U : Type 0} (by : PairOrder) → by ≡ meet_pair_order p n budget → (gens : List ModuleVector) → gens ≡ meet_generators n sector tangent → (run : Result U BasisFault) (fault : BasisFault) → run ≡ Err fault
      → (run ≢ Err faults.NoMemory → (run ≡ Err faults.PairsSpent) ↔ RunsTo high_block by RUN_DEGREE gens budget.pairs PairsSpent)
      → (run ≢ Err faults.NoMemory → (run ≡ Err faults.DegreeOver) ↔ RunsTo high_block by RUN_DEGREE gens budget.pairs DegreeOver) → (result : Result T BasisFault) → result ≡ Err fault → Tells result
  first_fault {T} {U} by selected gens is run fault failed spent over result also =
      subst (λ (r : Result T BasisFault). Tells r) (sym also)
      (fault_tells fault
      (λ e.
      let apart : run ≢ Err faults.NoMemory = λ m. absurd (let clash : ⊥ = cc in clash) in
      inl (tt, subst (λ (g : List ModuleVector). RunsTo high_block (meet_pair_order p n budget) RUN_DEGREE g budget.pairs PairsSpent) is (subst (λ (o : PairOrder). RunsTo high_block o RUN_DEGREE gens budget.pairs PairsSpent) selected ((spent apart).0 (failed ∙ ap (λ (f : BasisFault). Err f) e)))))
      (λ e.
      let apart : run ≢ Err faults.NoMemory = λ m. absurd (let clash : ⊥ = cc in clash) in
      inl (tt, subst (λ (g : List ModuleVector). RunsTo high_block (meet_pair_order p n budget) RUN_DEGREE g budget.pairs DegreeOver) is (subst (λ (o : PairOrder). RunsTo high_block o RUN_DEGREE gens budget.pairs DegreeOver) selected ((over apart).0 (failed ∙ ap (λ (f : BasisFault). Err f) e))))))

  stripped_end : (elements : List ModuleVector) (taken : ℕ) → MeetRunEnds p n sector budget tangent (Done elements taken) → (list : List ModuleVector) → IsUnstrippedBasis p n sector list
      → (by : PairOrder) → by ≡ sector_pair_order p n sector budget → (gens : List ModuleVector) → gens ≡ stripped_generators sector list → (end : RunEnd) → RunsTo over_position by RUN_DEGREE gens budget.pairs end → MeetEnds p n sector budget tangent end
  stripped_end elements taken meet list basis by selected gens is end ends =
      inr (record { elements = elements; taken = taken; meet = meet; list = list; basis = basis; ends = subst (λ (g : List ModuleVector). RunsTo over_position (sector_pair_order p n sector budget) RUN_DEGREE g budget.pairs end) is (subst (λ (o : PairOrder). RunsTo over_position o RUN_DEGREE gens budget.pairs end) selected ends) })

  -- and of the second one; and the end of both
  pub second_fault : {T U : Type 0} (elements : List ModuleVector) (taken : ℕ) → MeetRunEnds p n sector budget tangent (Done elements taken) → (list : List ModuleVector) → IsUnstrippedBasis p n sector list
      → (by : PairOrder) → by ≡ sector_pair_order p n sector budget → (gens : List ModuleVector) → gens ≡ stripped_generators sector list → (run : Result U BasisFault) (fault : BasisFault) → run ≡ Err fault
      → (run ≢ Err faults.NoMemory → (run ≡ Err faults.PairsSpent) ↔ RunsTo over_position by RUN_DEGREE gens budget.pairs PairsSpent)
      → (run ≢ Err faults.NoMemory → (run ≡ Err faults.DegreeOver) ↔ RunsTo over_position by RUN_DEGREE gens budget.pairs DegreeOver) → (result : Result T BasisFault) → result ≡ Err fault → Tells result
  second_fault {T} {U} elements taken meet list basis by selected gens is run fault failed spent over result also =
      subst (λ (r : Result T BasisFault). Tells r) (sym also)
      (fault_tells fault
      (λ e.
      let apart : run ≢ Err faults.NoMemory = λ m. absurd (let clash : ⊥ = cc in clash) in
      stripped_end elements taken meet list basis by selected gens is PairsSpent ((spent apart).0 (failed ∙ ap (λ (f : BasisFault). Err f) e)))
      (λ e.
      let apart : run ≢ Err faults.NoMemory = λ m. absurd (let clash : ⊥ = cc in clash) in
      stripped_end elements taken meet list basis by selected gens is DegreeOver ((over apart).0 (failed ∙ ap (λ (f : BasisFault). Err f) e))))

  pub both_done : (elements : List ModuleVector) (taken : ℕ) → MeetRunEnds p n sector budget tangent (Done elements taken) → (list : List ModuleVector) → IsUnstrippedBasis p n sector list
      → (by : PairOrder) → by ≡ sector_pair_order p n sector budget → (gens : List ModuleVector) → gens ≡ stripped_generators sector list → (last : List ModuleVector) (more : ℕ) → RunsTo over_position by RUN_DEGREE gens budget.pairs (Done last more)
      → MeetEnds p n sector budget tangent (Done last more)
  both_done elements taken meet list basis by selected gens is last more ends = stripped_end elements taken meet list basis by selected gens is (Done last more) ends
