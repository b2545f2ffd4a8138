use Rattle.std.proofs.Common.{◌≡◌, ℕ, List, [], ◌∷◌, ◌++◌, fold, map, sym, ◌∙◌, ap}
use Rattle.kb_machine.specs.States.{rule_numbered}
use Rattle.kb_publish.specs.declared.change.Change.{Change}
use Rattle.kb_publish.specs.declared.change.Change.TheVariants.{Published}
use Rattle.kb_publish.specs.declared.edition.Lines.{Lines}
use Rattle.kb_publish.specs.Publishing.{Publishing}
use Rattle.kb_publish.specs.Editions.{changed, lines_by, version_of}
use Rattle.kb_publish.proofs.Showing.{advances}
use Rattle.kb_publish.proofs.book_publisher.BookPublisher.advance.Goals as goal

pub returns : goal.returns
returns g c = λ earlier number shows leads.
    let later = c.args.book.now.course.state in
    let before = c.args.self.now.publisher in
    let middle = c.append.new.self in
    let after = c.publish.new.self in
    let changes = c.in_ok-changes.changes.items in
    let numbers = c.args.self.now.numbers.items in
    let rule = rule_numbered later.lines in
    let rules : c.as_slice-rules.result.now ≡ map rule c.live.result.now =
    c.as_slice-rules.ensures.rules ∙ c.list.ensures.rules ∙ c.reducer.ensures.rules ∙ ap (λ (l : List ℕ). map rule l) (sym c.live.ensures) in
    let makes : fold (changed {N = g.row.N.Denot}) (lines_by (rule_numbered later.lines) number numbers) changes ≡ version_of number later =
    ap (λ (l : List ℕ). fold (changed {N = g.row.N.Denot}) (lines_by rule number l) changes) (sym c.deref.ensures.value)
    ∙ c.in_ok-changes.ensures number rule rules ∙ ap (λ (l : List ℕ). lines_by rule number l) c.live.ensures in
    let published : middle.published ≡ before.published =
    ap (λ (p : Publishing Lines (Change g.row.N.Denot)). p.published) c.in_ok-append.ensures.told ∙ c.in_ok-tell_all.ensures.published in
    let pending : middle.pending ≡ (before.pending ++ changes) ++ Published ∷ [] =
    ap (λ (p : Publishing Lines (Change g.row.N.Denot)). p.pending) c.in_ok-append.ensures.told
    ∙ ap (λ (l : List (Change g.row.N.Denot)). l ++ Published ∷ []) c.in_ok-tell_all.ensures.told in
    record {
      shown = advances earlier later number before middle after changes numbers leads shows.shown shows.told shows.numbers makes published pending
          c.in_ok-publish.ensures.publishes;
      told = c.in_ok-publish.ensures.publishes.none_pending;
      numbers = c.in_ok-extend_from_slice.ensures.items ∙ ap (λ (l : List ℕ). l ++ c.live-2.result.now) c.clear.ensures.items ∙ c.live-2.ensures;
    }
