use Rattle.std.proofs.Common.{◌≡◌, append-nil, sym, ◌∙◌, ap}
use Rattle.sector_lattice.specs.Sectors.{sector_of}
use Rattle.sector_job.specs.Handing.{is_proper}
use Rattle.sector_job.proofs.HandedDown.{below_found, below_passed, below_whole}
use Rattle.sector_job.proofs.tails.add_below.Goals as goal
use Rattle.sector_job.proofs.tails.add_below.Goals.{then-lies_properly_in+in_ok-push, else-lies_properly_in}

pub loop-integral-init : goal.loop-integral-init
loop-integral-init c = sym (append-nil c.args.found.now.items)

pub loop-integral-preserved : goal.loop-integral-preserved
loop-integral-preserved c =
    let sector = c.args.sector.0 in
    let terms = c.terms-integral-items.result.now in
    let term = c.loop-integral-item.result in
    let tested : c.lies_properly_in.result ≡ is_proper (sector_of term.0) sector = c.lies_properly_in.ensures ∙ ap (λ s. is_proper s sector) c.sector.ensures.value in
    elim c.if-lies_properly_in.branch [
      | then-lies_properly_in+in_ok-push w ↦
          below_found sector terms c.loop-integral.integral-index term c.args.found.now.items c.loop-integral.found.items _ c.loop-integral-test.true c.loop-integral-item.is
          (sym tested ∙ w.if-lies_properly_in.true) (ap (λ v. v.items) w.found-is ∙ w.in_ok-push.ensures.items) c.loop-integral.invariant
      | else-lies_properly_in w ↦
          below_passed sector terms c.loop-integral.integral-index term c.args.found.now.items c.loop-integral.found.items _ c.loop-integral-test.true c.loop-integral-item.is
          (sym tested ∙ w.if-lies_properly_in.false) (ap (λ v. v.items) w.found-is) c.loop-integral.invariant
    ]

pub returns : goal.returns
returns c =
    below_whole c.args.sector.0 c.terms-integral-items.result.now c.args.form.now c.loop-integral.integral-index c.args.found.now.items c.loop-integral.found.items c.loop-integral-test.false
    c.terms-integral-items.ensures.same c.loop-integral.invariant
