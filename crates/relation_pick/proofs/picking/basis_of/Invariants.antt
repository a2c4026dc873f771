use Rattle.sector_lattice.specs.Sectors.{integral_cmp}
use Rattle.row_echelon.specs.References.{rows_of}
use Rattle.relation_pick.specs.Kept.{KeepsBasis}
use Rattle.relation_pick.proofs.Listing.{ListsBasisBelow}
use Rattle.relation_pick.proofs.picking.basis_of.Given as goal

abbrev pub invariant-loop-place : goal.invariant-loop-place
invariant-loop-place l = KeepsBasis (rows_of l.candidates) l.place l.echelon × ListsBasisBelow integral_cmp (rows_of l.candidates) l.place l.places.items
