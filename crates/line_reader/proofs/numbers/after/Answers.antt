use Rattle.line_reader.proofs.Words.{strips_found, strips_reads, strips_none}
use Rattle.line_reader.proofs.numbers.after.Goals as goal

pub returns-clause-found : goal.returns-clause-found
returns-clause-found c = strips_found (λ x. x.now) c.args.bytes.now c.args.word.now c.strip_prefix.result c.strip_prefix.ensures.cases

pub returns-clause-none : goal.returns-clause-none
returns-clause-none c = strips_none (λ x. x.now) c.args.bytes.now c.args.word.now c.strip_prefix.result c.strip_prefix.ensures.cases

pub returns-clause-reads : goal.returns-clause-reads
returns-clause-reads c = strips_reads (λ x. x.now) c.args.bytes.now c.args.word.now c.strip_prefix.result c.strip_prefix.ensures.cases
