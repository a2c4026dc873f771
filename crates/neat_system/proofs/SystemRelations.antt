-- Each relation of a system is the identity of a field of its sector's basis at its seed.
use Rattle.std.proofs.Common.{◌≡◌, ◌≢◌, ℕ, zero, suc, ◌+◌, ◌-◌, ◌<◌, ◌≤◌, List, [], ◌∷◌, ◌++◌, length, get_or, map, refl, sym, subst, arith}
use Rattle.std.specs.Prelude.{ℤ, Contains}
use Rattle.std.specs.List.{AllZip, AllByRecursion, range_with_len}
use Rattle.std.proofs.lemmas.List.Elements.{All-contains}
use Rattle.ibp_base.proofs.Members.{in_head, in_tail, in_map, from_map}
use Rattle.ibp_algebra.specs.Identity.{DoesNotRise}
use Rattle.ibp_algebra.specs.Spans.{row_at}
use Rattle.sector_lattice.specs.Sectors.{integral_cmp, sector_of}
use Rattle.sparse_rows.specs.Rows.{IntegralSum, coefficient_of, is_zero_integral}
use Rattle.family.specs.Within.{DataWithin}
use Rattle.family.specs.Conditions.{IsInSectorModule}
use Rattle.family.specs.FamilyData.{FamilyData}
use Rattle.ibp_relation.proofs.Outcomes.{not_zero}
use Rattle.ibp_relation.proofs.SeedSectors.{module_at}
use Rattle.sparse_poly.specs.declared.limits.TheConstants.{DEGREE_LIMIT}
use Rattle.relay_core.specs.Family.{book}
use Rattle.sector_module.specs.SectorBasis.{IsSectorBasis}
use Rattle.sector_job.specs.Candidates.{Integral, Label, labels, labels_at, IsCandidate, field_numbered}
use Rattle.sector_job.proofs.Listing.{zip_append}
use Rattle.system_text.specs.declared.value.SectorBlock.{SectorBlock}
use Rattle.system_text.specs.declared.value.System.{System}
use Rattle.system_text.specs.declared.value.Written.{Written}
use Rattle.neat_system.specs.Headline.{IsIdentityIn, AreIdentities, NoPowerRises}
use Rattle.target_rows.specs.Reductions.{declared_row}
use Rattle.neat_system.specs.System.{SectorWork, IsSectorWork, all_candidates, all_labels, block_of, relation_at, IsSystem}
use Rattle.neat_system.proofs.BasisFields.{basis_member}
use Rattle.neat_system.proofs.NoRise.{row_does_not_rise}
use Rattle.target_rows.proofs.PickedPlaces.{places_within}
use Rattle.neat_system.proofs.WorkSeeds.{seeds_of}

-- ---- lists that go together

pub zip_weaker : {A B : Type 0} (R S : A → B → Type 0) (P : A → Type 0) → ((x : A) (y : B) → P x → R x y → S x y) → (xs : List A) (ys : List B) → AllByRecursion P xs → AllZip R xs ys → AllZip S xs ys
zip_weaker R S P h [] [] each zip = tt
zip_weaker R S P h [] (y ∷ ys) each zip = absurd zip
zip_weaker R S P h (x ∷ xs) [] each zip = absurd zip
zip_weaker R S P h (x ∷ xs) (y ∷ ys) each zip = (h x y each.0 zip.0, zip_weaker R S P h xs ys each.1 zip.1)

pub zip_at : {A B : Type 0} (R : A → B → Type 0) (xs : List A) (ys : List B) → AllZip R xs ys → (k : ℕ) (d : A) (e : B) → k < length ys → R (get_or xs k d) (get_or ys k e)
zip_at R [] [] h k d e below = absurd (omega arith)
zip_at R [] (y ∷ ys) h k d e below = absurd h
zip_at R (x ∷ xs) [] h k d e below = absurd h
zip_at R (x ∷ xs) (y ∷ ys) h zero d e below = h.0
zip_at R (x ∷ xs) (y ∷ ys) h (suc k) d e below = zip_at R xs ys h.1 k d e (omega arith)

-- ---- labels

pub record IsLabelOf (count : ℕ) (seeds : List Integral) (label : Label) : Type 0 where
  pub at_seed : Contains seeds label.seed
  pub from_one : 1 ≤ label.field
  pub within : label.field ≤ count

each_number : (count : ℕ) (seeds : List Integral) (seed : Integral) → Contains seeds seed → (first n : ℕ) → 1 ≤ first → first + n ≤ count + 1
    → AllByRecursion (IsLabelOf count seeds) (map (λ number. record { seed = seed; field = number }) (range_with_len first n))
each_number count seeds seed inside first zero low high = tt
each_number count seeds seed inside first (suc n) low high = (
  record { at_seed = inside; from_one = low; within = omega arith },
  each_number count seeds seed inside (first + 1) n (omega arith) (omega arith),
)

join : {A : Type 0} (P : A → Type 0) (xs ys : List A) → AllByRecursion P xs → AllByRecursion P ys → AllByRecursion P (xs ++ ys)
join P [] ys h k = k
join P (x ∷ xs) ys h k = (h.0, join P xs ys h.1 k)

pub each_label : (count : ℕ) (whole seeds : List Integral) → ((z : Integral) → Contains seeds z → Contains whole z) → AllByRecursion (IsLabelOf count whole) (labels count seeds)
each_label count whole [] h = tt
each_label count whole (seed ∷ seeds) h =
    join (IsLabelOf count whole) (labels_at count seed) (labels count seeds)
    (each_number count whole seed (h seed (in_head seed seeds seed refl)) 1 count (omega arith) (omega arith))
    (each_label count whole seeds (λ z inside. h z (in_tail seed seeds z inside)))

-- ---- the candidates of works

module _ (family : FamilyData) (books : List Integral) where
  -- the row is a candidate of one of these works
  record IsOfWork (works : List SectorWork) (label : Label) (row : IntegralSum) : Type 0 where
    work : SectorWork
    listed : Contains works work
    is_work : IsSectorWork family books work
    label_of : IsLabelOf (length work.fields) work.seeds label
    candidate : IsCandidate family label.seed (field_numbered work.fields label.field) row

  of_one : (works : List SectorWork) (work : SectorWork) → Contains works work → IsSectorWork family books work → AllZip (IsOfWork works) (labels (length work.fields) work.seeds) work.candidates
  of_one works work listed is =
      zip_weaker (λ label row. IsCandidate family label.seed (field_numbered work.fields label.field) row) (IsOfWork works) (IsLabelOf (length work.fields) work.seeds)
      (λ label row label_of candidate. record { work = work; listed = listed; is_work = is; label_of = label_of; candidate = candidate })
      (labels (length work.fields) work.seeds) work.candidates
      (each_label (length work.fields) work.seeds work.seeds (λ z inside. inside))
      (subst (λ (seeds : List Integral). AllZip (λ label row. IsCandidate family label.seed (field_numbered work.fields label.field) row) (labels (length work.fields) seeds) work.candidates)
      (sym is.with_seeds) is.worked.are_candidates)

  of_works : (whole works : List SectorWork) → ((w : SectorWork) → Contains works w → Contains whole w) → ((w : SectorWork) → Contains works w → IsSectorWork family books w) → AllZip (IsOfWork whole) (all_labels works) (all_candidates works)
  of_works whole [] inside each = tt
  of_works whole (work ∷ works) inside each =
      zip_append (IsOfWork whole) (labels (length work.fields) work.seeds) (all_labels works) work.candidates (all_candidates works)
      (of_one whole work (inside work (in_head work works work refl)) (each work (in_head work works work refl)))
      (of_works whole works (λ w there. inside w (in_tail work works w there)) (λ w there. each w (in_tail work works w there)))

module _ (family : FamilyData) (limits : DataWithin family) (system : System) (is : IsSystem family system) where
  abbrev label_at : ℕ → Label
  label_at place = get_or (all_labels is.works) place (record { seed = []; field = 0 })

  abbrev relation_of : ℕ → Written
  relation_of = relation_at (all_labels is.works) (all_candidates is.works)

  of_work_at : (place : ℕ) → Contains is.written place → IsOfWork family is.books is.works (label_at place) (row_at (all_candidates is.works) place)
  of_work_at place inside =
      let below : place < length (all_candidates is.works) =
      All-contains (λ p. p < length (all_candidates is.works)) is.written place
      (places_within integral_cmp (all_candidates is.works) (map (declared_row family) family.targets) is.written is.forms is.weights is.pick) inside
      in
      zip_at (IsOfWork family is.books is.works) (all_labels is.works) (all_candidates is.works)
      (of_works family is.books is.works is.works (λ w there. there) (λ w there. All-contains (IsSectorWork family is.books) is.works w is.are_works.each there))
      place (record { seed = []; field = 0 }) [] below

  seed_sector : (label : Label) (row : IntegralSum) (found : IsOfWork family is.books is.works label row) → sector_of label.seed ≡ found.work.sector
  seed_sector label row found = (((seeds_of family (book found.work.sector is.books) found.work found.is_work).members label.seed).0 found.label_of.at_seed).of_sector

  seed_powers : (label : Label) (row : IntegralSum) (found : IsOfWork family is.books is.works label row) → length label.seed ≡ family.n
  seed_powers label row found = (((seeds_of family (book found.work.sector is.books) found.work found.is_work).members label.seed).0 found.label_of.at_seed).of_n

  identity_at : (place : ℕ) → Contains is.written place → IsIdentityIn family system (relation_of place)
  identity_at place inside =
      let found = of_work_at place inside in
      let own : found.work.sector ≡ sector_of (label_at place).seed = sym (seed_sector (label_at place) (row_at (all_candidates is.works) place) found) in
      record {
        of_seed = refl;
        block = block_of found.work;
        listed = subst (λ (blocks : List SectorBlock). Contains blocks (block_of found.work)) (sym is.sectors) (in_map block_of is.works found.work found.listed);
        of_sector = λ i. record { 0 = own i };
        basis = subst (λ s. IsSectorBasis family.baikov family.n s found.work.fields) own found.is_work.worked.basis.basis;
        from_one = found.label_of.from_one;
        within = found.label_of.within;
        identity = found.candidate;
      }

  at_relation : (P : Written → Type 0) → ((place : ℕ) → Contains is.written place → P (relation_of place)) → (relation : Written) → Contains system.relations relation → P relation
  at_relation P h relation inside =
      let found = from_map relation_of is.written relation (subst (λ (relations : List Written). Contains relations relation) is.relations inside) in
      subst P found.1.1 (h found.0 found.1.0)

  pub are_identities : AreIdentities family system
  are_identities = at_relation (IsIdentityIn family system) identity_at

  none_rises_at : (place : ℕ) → Contains is.written place → (β : List ℤ) → coefficient_of (relation_of place).row β ≢ 0 → (length β ≡ family.n) × DoesNotRise (relation_of place).seed β
  none_rises_at place inside β occurs =
      let label = label_at place in
      let row = row_at (all_candidates is.works) place in
      let found = of_work_at place inside in
      let below : label.field - 1 < length found.work.fields = omega (arith, found.label_of.from_one, found.label_of.within) in
      let field = field_numbered found.work.fields label.field in
      let member = basis_member family.baikov family.n found.work.sector limits.few_variables limits.polynomial.variables found.work.fields found.is_work.worked.basis.basis (label.field - 1) (record { c = []; b = [] }) below in
      row_does_not_rise family.n family.gamma family.baikov field.c field.b label.seed (is_zero_integral family.zero) row (seed_powers label row found) member.1
      (not_zero family.n DEGREE_LIMIT family.baikov limits.few_variables limits.polynomial limits.not_zero)
      (module_at family.baikov label.seed field (subst (λ s. IsInSectorModule family.baikov s field) (sym (seed_sector label row found)) member.0))
      found.candidate.identity β occurs

  pub no_power_rises : NoPowerRises family system
  no_power_rises = at_relation (λ relation. (β : List ℤ) → coefficient_of relation.row β ≢ 0 → (length β ≡ family.n) × DoesNotRise relation.seed β) none_rises_at
