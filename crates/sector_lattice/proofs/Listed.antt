-- The tests for subsectors answer by the members of the sectors.
use Rattle.std.proofs.Common.{◌≡◌, ℕ, Bool, List}
use Rattle.std.specs.Prelude.{bit_and, ◌↔◌, IsTrue}
use Rattle.std.specs.Bool.{Decides}
use Rattle.std.specs.Cmp.{unsigned_Decides}
use Rattle.std.proofs.lemmas.Bool.Decides.{Decides-like, same_from_decides}
use Rattle.std.proofs.lemmas.List.Folds.{Any-from_list_any, list_any-from_Any}
use Rattle.sector_lattice.specs.declared.sector.Sector.{Sector}
use Rattle.sector_lattice.specs.Sectors.{IsSubsector}
use Rattle.sector_lattice.specs.Orders.{shared_digits, from_shared_digits}
use Rattle.sector_lattice.specs.Subsectors.{is_subsector, is_subsector_of_any, IsListedSubsector}

pub subsector_decides : (inner outer : ℕ) → Decides (is_subsector inner outer) (IsSubsector inner outer)
subsector_decides inner outer = Decides-like _ (from_shared_digits inner outer) (shared_digits inner outer) (unsigned_Decides (bit_and inner outer) inner)

pub same_test : (r : Bool) (inner outer : ℕ) → (IsTrue r ↔ IsSubsector inner outer) → r ≡ is_subsector inner outer
same_test r inner outer h = same_from_decides r (is_subsector inner outer) h (subsector_decides inner outer)

pub listed_test : (sector : ℕ) (listed : List Sector) → IsTrue (is_subsector_of_any sector listed) ↔ IsListedSubsector sector listed
listed_test sector listed =
    let test : Sector → Bool = λ outer. is_subsector sector outer.0 in (
      (λ yes.
          let found = Any-from_list_any test listed yes in
          (found.0, found.1, found.2, found.3, (subsector_decides sector found.1.0).0 found.4)),
      (λ h. list_any-from_Any test listed (h.0, h.1, h.2, h.3, (subsector_decides sector h.1.0).1 h.4)),
    )
