use Rattle.std.proofs.Common.{◌≡◌, List, [], ◌∷◌, ◌++◌, drop, ap, ◌∙◌, subst}
use Rattle.kb_publish.specs.Entries.{operations}
use Rattle.kb_publish.specs.Publishing.{Publishing}
use Rattle.kb_publish.proofs.Entering.{operations_with_one_more}
use Rattle.kb_publish.proofs.publisher.Publisher.append.Goals as goal

pub returns-clause-told : goal.returns-clause-told
returns-clause-told g c =
    let S : Type 0 = g.row.V-State.Denot in
    let O : Type 0 = g.row.O.Denot in
    let press = c.self.inside.press in
    let pending : List O = operations (drop press.behind press.log.items) in
    let told : operations (drop c.append.new.self.behind c.append.new.self.log.items) ≡ pending ++ c.args.operation ∷ [] =
    ap operations c.in-Ok.ensures.pending ∙ operations_with_one_more (drop press.behind press.log.items) c.args.operation in
    let publishing : List O → Publishing S O = λ all. record { published = c.self.inside.notes; pending = all } in
    subst (λ (value : Publishing S O). publishing (operations (drop c.append.new.self.behind c.append.new.self.log.items))
    ≡ record { published = value.published; pending = value.pending ++ c.args.operation ∷ [] }) c.self.view_is (ap publishing told)
