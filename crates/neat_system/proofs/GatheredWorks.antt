-- One more piece of what is gathered.
use Rattle.std.proofs.Common.{◌≡◌, ℕ, ◌+◌, ◌<◌, ◌≤◌, List, [], ◌∷◌, ◌++◌, length, get_or, map, take, refl, sym, ◌∙◌, ap, subst, arith}
use Rattle.std.specs.List.{AllZip}
use Rattle.std.proofs.lemmas.List.{length-map, take_more, map_push, flat_map_more}
use Rattle.std.proofs.lemmas.List.Elements.{All-contains}
use Rattle.ibp_algebra.specs.Spans.{row_at}
use Rattle.sector_lattice.specs.Sectors.{integral_cmp}
use Rattle.row_echelon.specs.References.{rows_of}
use Rattle.relation_pick.specs.Bases.{Covers, ListsBasis}
use Rattle.relation_pick.specs.Picking.{rows_at}
use Rattle.relation_pick.proofs.Covers.{covers_joined}
use Rattle.relation_pick.proofs.Places.{few_below}
use Rattle.relation_pick.proofs.Referred.{as_many_rows}
use Rattle.sector_job.specs.Candidates.{Integral, Label, labels, AreSeedsFor}
use Rattle.sector_job.specs.Results.{ResultValue, HasSeeds, HasBasisOf}
use Rattle.sector_job.specs.Outcomes.{IsOutcome}
use Rattle.sector_job.specs.declared.outcome.Outcome.{Outcome}
use Rattle.sector_job.specs.declared.outcome.Outcome.TheVariants.{Worked}
use Rattle.sector_module.specs.Generators.{GeneratorsValue}
use Rattle.sparse_rows.specs.Rows.{IntegralSum}
use Rattle.family.specs.FamilyView.{family_view}
use Rattle.neat_system.specs.declared.gathering.Gathered.{Gathered}
use Rattle.neat_system.specs.Gathering.{IsOwnWork, label_view, label_views, label_at, Gains, Gathers}
use Rattle.neat_system.specs.System.{SectorWork, all_candidates, all_labels, block_of}
use Rattle.neat_system.proofs.Lengths.{labels_match}
use Rattle.neat_system.proofs.MovedPlaces.{at_joined}
use Rattle.neat_system.proofs.WorkSeeds.{same_seeds}

-- one more element of a list, by what a loop reads
taken : {X : Type 0} (xs : List X) (i : ℕ) (x : X) → i < length xs → x ≡ get_or xs i x → take (i + 1) xs ≡ take i xs ++ x ∷ []
taken xs i x inside is = take_more xs i x inside ∙ ap (λ y. take i xs ++ y ∷ []) (sym is)

zip_push : {A B : Type 0} (R : A → B → Type 0) (xs : List A) (ys : List B) (x : A) (y : B) → AllZip R xs ys → R x y → AllZip R (xs ++ x ∷ []) (ys ++ y ∷ [])
zip_push R [] [] x y all one = (one, tt)
zip_push R [] (b ∷ ys) x y all one = absurd all
zip_push R (a ∷ xs) [] x y all one = absurd all
zip_push R (a ∷ xs) (b ∷ ys) x y all one = (all.0, zip_push R xs ys x y all.1 one)

-- the places of the works so far, and those of one work more
abbrev joined : List SectorWork → SectorWork → List ℕ → List ℕ → List ℕ
joined works work p q = p ++ map (λ k. length (all_candidates works) + k) q

module _ (pieces : List ResultValue) (works : List SectorWork) (are : AllZip IsOwnWork pieces works) (work : SectorWork) (p q : List ℕ) (covers : Covers integral_cmp (all_candidates works) p) (more : Covers integral_cmp work.candidates q) where
  candidates_more : all_candidates (works ++ work ∷ []) ≡ all_candidates works ++ work.candidates
  candidates_more = sym (flat_map_more (λ (w : SectorWork). w.candidates) [] works work)

  labels_more : all_labels (works ++ work ∷ []) ≡ all_labels works ++ labels (length work.fields) work.seeds
  labels_more = sym (flat_map_more (λ (w : SectorWork). labels (length w.fields) w.seeds) [] works work)

  covers_more : Covers integral_cmp (all_candidates (works ++ work ∷ [])) (joined works work p q)
  covers_more = subst (λ (rows : List IntegralSum). Covers integral_cmp rows (joined works work p q)) (sym candidates_more) (covers_joined (all_candidates works) work.candidates p q covers more)

  rows_more : rows_at (all_candidates (works ++ work ∷ [])) (joined works work p q) ≡ rows_at (all_candidates works) p ++ rows_at work.candidates q
  rows_more =
      ap (λ (rows : List IntegralSum). rows_at rows (joined works work p q)) candidates_more
      ∙ at_joined [] (all_candidates works) work.candidates (length (all_candidates works)) refl p q covers.within

  names_more : map (label_at (all_labels (works ++ work ∷ []))) (joined works work p q) ≡ map (label_at (all_labels works)) p ++ map (label_at (labels (length work.fields) work.seeds)) q
  names_more =
      ap (λ (ls : List Label). map (label_at ls) (joined works work p q)) labels_more
      ∙ at_joined (record { seed = []; field = 0 }) (all_labels works) (labels (length work.fields) work.seeds) (length (all_candidates works)) (labels_match pieces works are) p q covers.within

-- no work at all
covers_none : Covers integral_cmp [] []
covers_none = record {
  ascends = λ n inside. absurd (omega (arith, inside));
  within = λ k d inside. absurd (omega (arith, inside));
  others = λ k inside. absurd (omega (arith, inside));
}

pub gathers_none : (gathered : Gathered) → gathered.blocks.items ≡ [] → gathered.labels.items ≡ [] → gathered.candidates.items ≡ [] → Gathers [] gathered
gathers_none gathered blocks labels candidates = record {
  works = [];
  are_works = tt;
  places = [];
  covers = covers_none;
  blocks = blocks;
  labels = ap label_views labels;
  candidates = ap rows_of candidates;
}

pub gathers_more : (pieces : List ResultValue) (i : ℕ) (piece : ResultValue) (old new : Gathered) → i < length pieces → piece ≡ get_or pieces i piece
    → Gathers (take i pieces) old → Gains piece old new → Gathers (take (i + 1) pieces) new
gathers_more pieces i piece old new inside is so_far gains =
    let work = gains.work in
    let works = so_far.works in
    record {
      works = works ++ work ∷ [];
      are_works = subst (λ (ps : List ResultValue). AllZip IsOwnWork ps (works ++ work ∷ [])) (sym (taken pieces i piece inside is))
          (zip_push IsOwnWork (take i pieces) works piece work so_far.are_works gains.is_work);
      places = joined works work so_far.places gains.places;
      covers = covers_more (take i pieces) works so_far.are_works work so_far.places gains.places so_far.covers gains.covers;
      blocks = gains.blocks ∙ ap (λ bs. bs ++ block_of work ∷ []) so_far.blocks ∙ sym (map_push block_of works work);
      labels = gains.labels ∙ ap (λ ls. ls ++ map (label_at (labels (length work.fields) work.seeds)) gains.places) so_far.labels
          ∙ sym (names_more (take i pieces) works so_far.are_works work so_far.places gains.places so_far.covers gains.covers);
      candidates = gains.candidates ∙ ap (λ cs. cs ++ rows_at work.candidates gains.places) so_far.candidates
          ∙ sym (rows_more (take i pieces) works so_far.are_works work so_far.places gains.places so_far.covers gains.covers);
    }

-- each candidate that is gathered has a label
pub as_many_labels : (pieces : List ResultValue) (gathered : Gathered) → Gathers pieces gathered → length gathered.labels.items ≡ length gathered.candidates.items
as_many_labels pieces gathered gathers =
    sym (length-map gathered.labels.items label_view) ∙ ap length gathers.labels ∙ length-map gathers.places (label_at (all_labels gathers.works))
    ∙ sym (length-map gathers.places (row_at (all_candidates gathers.works))) ∙ ap length (sym gathers.candidates) ∙ as_many_rows gathered.candidates.items

-- no more candidates are gathered than there are
pub few_gathered : (pieces : List ResultValue) (gathered : Gathered) (gathers : Gathers pieces gathered) → length gathered.candidates.items ≤ length (all_candidates gathers.works)
few_gathered pieces gathered gathers =
    let all = all_candidates gathers.works in
    let listed : length gathered.candidates.items ≡ length gathers.places = sym (as_many_rows gathered.candidates.items) ∙ ap length gathers.candidates ∙ length-map gathers.places (row_at all) in
    let few : length gathers.places ≤ length all = few_below gathers.places (length all) gathers.covers.ascends (λ x inside. All-contains (λ k. k < length all) gathers.places x gathers.covers.within inside) in
    omega (arith, listed, few)

-- what a piece comes to that is worked
module _ (piece : ResultValue) (generators : GeneratorsValue) (candidates : List IntegralSum) (tails : List Integral) (worked : piece.outcome ≡ Worked generators candidates tails) where
  pub worked_basis : (places : List ℕ) → HasBasisOf piece.outcome places → ListsBasis integral_cmp candidates places
  worked_basis places has = subst (λ (o : Outcome). HasBasisOf o places) worked has

  pub piece_work : (seeds : List Integral) → IsOutcome (family_view piece.plan) piece.sector.0 piece.targets piece.outcome
      → HasSeeds (family_view piece.plan) piece.sector.0 piece.targets piece.outcome seeds
      → IsOwnWork piece (record { sector = piece.sector.0; fields = generators.fields; seeds = seeds; candidates = candidates; tails = tails })
  piece_work seeds is has =
      let family = family_view piece.plan in
      let outcome : IsOutcome family piece.sector.0 piece.targets (Worked generators candidates tails) = subst (λ (o : Outcome). IsOutcome family piece.sector.0 piece.targets o) worked is in
      let are_seeds : AreSeedsFor family piece.sector.0 piece.targets seeds = subst (λ (o : Outcome). HasSeeds family piece.sector.0 piece.targets o seeds) worked has in
      record {
        of_sector = refl;
        is_work = record { worked = outcome.1; with_seeds = same_seeds family piece.sector.0 piece.targets seeds outcome.1.seeds are_seeds outcome.1.are_seeds };
      }
