-- The answers for consecutive pieces of the targets, joined in order.
use Rattle.std.proofs.Common.{◌≡◌, ℕ, ◌+◌, ◌*◌, List, ◌++◌, take, drop, sym, ap, subst, ◌∙◌}
use Rattle.ibp_algebra.specs.FormalSum.{FormalSum}
use Rattle.sector_lattice.specs.Sectors.{integral_cmp}
use Rattle.sparse_rows.specs.Rows.{IntegralSum}
use Rattle.relation_pick.specs.Picking.{AllAnswers}
use Rattle.relation_pick.proofs.Answering.{AllAnswers-append}
use Rattle.relation_pick.proofs.Pieces.{front, front_more}

pub joins : (candidates targets piece : List IntegralSum) (size n m : ℕ) (forms rest new : List IntegralSum) (all others longer : List (FormalSum ℕ))
    → m ≡ n + 1 → piece ≡ take size (drop (n * size) targets) → new ≡ forms ++ rest → longer ≡ all ++ others
    → AllAnswers integral_cmp candidates (front targets size n) forms all → AllAnswers integral_cmp candidates piece rest others
    → AllAnswers integral_cmp candidates (front targets size m) new longer
joins candidates targets piece size n m forms rest new all others longer next is joined gathered before here =
    let both = AllAnswers-append integral_cmp candidates (front targets size n) piece forms rest all others before here in
    let whole : front targets size m ≡ front targets size n ++ piece = ap (front targets size) next ∙ front_more targets size n ∙ ap (λ (ts : List IntegralSum). front targets size n ++ ts) (sym is) in
    subst (λ (ts : List IntegralSum). AllAnswers integral_cmp candidates ts new longer) (sym whole)
    (subst (λ (fs : List IntegralSum). AllAnswers integral_cmp candidates (front targets size n ++ piece) fs longer) (sym joined)
    (subst (λ (ws : List (FormalSum ℕ)). AllAnswers integral_cmp candidates (front targets size n ++ piece) (forms ++ rest) ws) (sym gathered) both))
