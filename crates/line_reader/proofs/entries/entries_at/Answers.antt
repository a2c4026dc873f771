use Rattle.std.proofs.Common.{arith, ◌++◌, ◌∷◌, List, [], sym, ap, ◌∙◌, subst}
use Rattle.std.specs.List.{AllByRecursion}
use Rattle.line_reader.specs.Entries.{more}
use Rattle.line_reader.proofs.Words.{not_none, some_holds, if_holds}
use Rattle.line_reader.proofs.Separated.{ends_more, one_entry, all_behind, all_more, next_entry, none_left, first_read, next_read}
use Rattle.line_reader.proofs.entries.entries_at.Goals as goal

pub returns-in_default-clause-reads : goal.returns-in_default-clause-reads
returns-in_default-clause-reads g c x xs final is are ends not e =
    let text = g.E.Entry.text in
    let s = c.args.separator.now in
    not_none c.in_ok-first.field-0 _
    (c.in_ok-first.ensures.reads x (more text s xs ++ final) is (ends_more text s g.E.Entry.ends xs final ends c.requires.ended) (one_entry text s x xs final c.args.bytes.now e))
    c.in_default.is

pub loop-others-init : goal.loop-others-init
loop-others-init g c =
    let text = g.E.Entry.text in
    let s = c.args.separator.now in
    let added = c.in_ok-push.ensures.items ∙ ap (λ (zs : List g.row.T.Denot). zs ++ c.in-Some.first ∷ []) c.new-entries.ensures.items in
    record {
      so_far = λ x xs final is are ends not e.
          first_read text s x c.in-Some.first xs c.push.new.self.items final c.in-Some.rest.now
          (some_holds c.in_ok-first.field-0 _ (c.in-Some.first, c.in-Some.rest)
          (c.in_ok-first.ensures.reads x (more text s xs ++ final) is (ends_more text s g.E.Entry.ends xs final ends c.requires.ended) (one_entry text s x xs final c.args.bytes.now e))
          c.in-Some.is) added;
      each = all_more (g.E.Entry.is_entry c.args.n) [] c.in-Some.first c.push.new.self.items added tt
          (if_holds c.in_ok-first.field-0 _ (c.in-Some.first, c.in-Some.rest) c.in_ok-first.ensures.entry c.in-Some.is);
      shorter = if_holds c.in_ok-first.field-0 _ (c.in-Some.first, c.in-Some.rest) c.in_ok-first.ensures.shorter c.in-Some.is;
    }

pub returns-in_default-2-clause-reads : goal.returns-in_default-2-clause-reads
returns-in_default-2-clause-reads g c x xs final is are ends not e =
    let text = g.E.Entry.text in
    let s = c.args.separator.now in
    let left = c.loop-others.invariant.so_far x xs final is are ends not e in
    let next = next_entry text s left.todo final c.loop-others.rest.now c.in-Some-after.others.now not left.left
    (if_holds c.after.result _ c.in-Some-after.others c.after.ensures.found c.in-Some-after.is) in
    let good = subst (λ (zs : List g.row.T.Denot). AllByRecursion (g.E.Entry.is_entry c.args.n) zs) next.is
    (all_behind (g.E.Entry.is_entry c.args.n) (x ∷ xs) c.loop-others.entries.items left.todo left.split (is, are)) in
    not_none c.in_ok-entry.field-0 _
    (c.in_ok-entry.ensures.reads next.t (more text s next.ts ++ final) good.0 (ends_more text s g.E.Entry.ends next.ts final ends c.requires.ended) next.front)
    c.in_default-2.is

pub loop-others-smaller : goal.loop-others-smaller
loop-others-smaller g c =
    let one = if_holds c.in_ok-entry.field-0 _ (c.in-Some-2.entry, c.in-Some-2.left) c.in_ok-entry.ensures.shorter c.in-Some-2.is in
    let two = if_holds c.after.result _ c.in-Some-after.others c.after.ensures.shorter c.in-Some-after.is in
    omega (arith, one, two, c.requires.some)

pub loop-others-preserved : goal.loop-others-preserved
loop-others-preserved g c =
    let text = g.E.Entry.text in
    let s = c.args.separator.now in
    let one = if_holds c.in_ok-entry.field-0 _ (c.in-Some-2.entry, c.in-Some-2.left) c.in_ok-entry.ensures.shorter c.in-Some-2.is in
    let two = if_holds c.after.result _ c.in-Some-after.others c.after.ensures.shorter c.in-Some-after.is in
    record {
      so_far = λ x xs final is are ends not e.
          let left = c.loop-others.invariant.so_far x xs final is are ends not e in
          let next = next_entry text s left.todo final c.loop-others.rest.now c.in-Some-after.others.now not left.left
          (if_holds c.after.result _ c.in-Some-after.others c.after.ensures.found c.in-Some-after.is) in
          let good = subst (λ (zs : List g.row.T.Denot). AllByRecursion (g.E.Entry.is_entry c.args.n) zs) next.is
          (all_behind (g.E.Entry.is_entry c.args.n) (x ∷ xs) c.loop-others.entries.items left.todo left.split (is, are)) in
          next_read text s (x ∷ xs) c.loop-others.entries.items c.push-in-Some-after.new.self.items left.todo final c.loop-others.rest.now c.in-Some-after.others.now c.in-Some-2.left.now c.in-Some-2.entry next
          left.split
          (some_holds c.in_ok-entry.field-0 _ (c.in-Some-2.entry, c.in-Some-2.left)
          (c.in_ok-entry.ensures.reads next.t (more text s next.ts ++ final) good.0 (ends_more text s g.E.Entry.ends next.ts final ends c.requires.ended) next.front)
          c.in-Some-2.is)
          c.in_ok-push-2.ensures.items;
      each = all_more (g.E.Entry.is_entry c.args.n) c.loop-others.entries.items c.in-Some-2.entry c.push-in-Some-after.new.self.items c.in_ok-push-2.ensures.items c.loop-others.invariant.each
          (if_holds c.in_ok-entry.field-0 _ (c.in-Some-2.entry, c.in-Some-2.left) c.in_ok-entry.ensures.entry c.in-Some-2.is);
      shorter = omega (arith, one, two, c.loop-others.invariant.shorter);
    }

pub returns-clause-reads : goal.returns-clause-reads
returns-clause-reads g c x xs final is are ends not e =
    let h = none_left g.E.Entry.text c.args.separator.now (x ∷ xs) c.loop-others.entries.items final c.loop-others.rest.now c.in_default-after.ensures.reads
    (c.loop-others.invariant.so_far x xs final is are ends not e) in
    (sym h.0, h.1)
