use Rattle.std.proofs.Common.{◌≡◌, ℕ, ◌+◌, ◌<◌, get_or, sum, length, sym, ap, ◌∙◌, arith}
use Rattle.fast_division.proofs.RankOrder.{rank-zero}
use Rattle.fast_division.proofs.RankTables.{sum-within, entry-few, rank-next}
use Rattle.fast_division.proofs.ranks.Ranks.rank.Goals as goal

pub loop-k-init : goal.loop-k-init
loop-k-init c = record { rank = sym (rank-zero c.args.monomial.now); small = omega arith }

pub index-requires : goal.index-requires
index-requires c =
    let rows : length c.self.inside.rows.items ≡ c.args.self.now.1 = ap (λ (p : ℕ × ℕ). p.1) c.self.view_is in
    let within : sum c.args.monomial.now < length c.self.inside.rows.items = omega (arith, rows, c.requires) in
    let at = sum-within c.self.inside.variables c.self.inside.rows.items c.self.invariant c.args.monomial.now c.partial_sums-sums.result c.loop-k.k c.loop-k-test.true
    c.partial_sums-sums.ensures.kept.each_variable c.partial_sums-sums.ensures.value within in
    omega (arith, at, c.self.inside.rows.ok.0)

pub loop-k-preserved : goal.loop-k-preserved
loop-k-preserved c =
    let rows : length c.self.inside.rows.items ≡ c.args.self.now.1 = ap (λ (p : ℕ × ℕ). p.1) c.self.view_is in
    let within : sum c.args.monomial.now < length c.self.inside.rows.items = omega (arith, rows, c.requires) in
    let next = rank-next c.self.inside.variables c.self.inside.rows.items c.self.invariant c.args.monomial.now c.partial_sums-sums.result c.loop-k.k c.loop-k-test.true
    c.partial_sums-sums.ensures.kept.each_variable c.partial_sums-sums.ensures.value c.index.result.now within c.index.ensures in
    let few = entry-few c.self.inside.variables c.self.inside.rows.items c.self.invariant c.args.monomial.now c.partial_sums-sums.result c.loop-k.k c.loop-k-test.true
    c.partial_sums-sums.ensures.kept.each_variable c.partial_sums-sums.ensures.value c.index.result.now within c.index.ensures in
    record {
      rank = ap (λ r. r + get_or c.index.result.now c.loop-k.k 0) c.loop-k.invariant.rank ∙ next;
      small = omega (arith, few, c.loop-k.invariant.small);
    }
