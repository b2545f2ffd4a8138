use Rattle.std.proofs.Common.{◌≡◌, ℕ, List, Result, subst}
use Rattle.std.specs.Prelude.{OnOk}
use Rattle.kb_machine.specs.declared.line.Line.{Line}
use Rattle.kb_share.proofs.finding.Finder.find.Goals as goal
use Rattle.kb_share.specs.Finding.{FindsLines}
use Rattle.kb_share.specs.declared.finding.Side.{Side}

finds_same : {T E : Type 0} (r : Result T E) (side : Side) (lines lines' : List Line) (live live' : List ℕ) (k : ℕ) (found : List ℕ)
    → lines ≡ lines' → live ≡ live' → OnOk r (FindsLines side lines live k found) → OnOk r (FindsLines side lines' live' k found)
finds_same r side lines lines' live live' k found first second finds =
    subst (λ (xs : List ℕ). OnOk r (FindsLines side lines' xs k found)) second
    (subst (λ (xs : List Line). OnOk r (FindsLines side xs live k found)) first finds)

pub returns-clause-all : goal.returns-clause-all
returns-clause-all g c =
    let state = c.args.book.now.course.state in
    finds_same c.search.result c.args.side c.lines-3.result.now state.lines c.live-3.result.now state.live c.args.k
    c.search.new.self.found.items c.lines-3.ensures c.live-3.ensures c.search.ensures.all
