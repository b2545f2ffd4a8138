use Rattle.std.proofs.Common.{◌≡◌, ◌++◌, List, ◌∙◌, ap}
use Rattle.kb_share.specs.declared.found.Apart.{Apart}
use Rattle.kb_threads.proofs.NothingFound.{row_joined}
use Rattle.kb_threads.proofs.sweeping.RowsWork.take.Goals as goal

pub returns-clause-done : goal.returns-clause-done
returns-clause-done g c = λ all none.
    let before = c.args.share.now.found.items in
    let row = c.sift_row.new.found.items in
    let added : c.extend_from_slice.new.self.items ≡ before ++ row =
    c.in_ok-extend_from_slice.ensures.items ∙ ap (λ (xs : List Apart). before ++ xs) c.deref.ensures.value in
    row_joined c.args.self.now.sieve c.args.self.now.from c.args.row before row c.extend_from_slice.new.self.items
    c.in_ok-sift_row.ensures added all none
