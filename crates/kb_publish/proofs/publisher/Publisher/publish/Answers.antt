use Rattle.std.proofs.Common.{◌≡◌, List, [], ◌∷◌, ◌++◌, drop, sym, ap, ◌∙◌, subst}
use Rattle.left_right.specs.Sides.{view}
use Rattle.kb_publish.specs.declared.versions.Shown.{Shown}
use Rattle.kb_publish.specs.declared.versions.View.{View}
use Rattle.kb_publish.specs.Entries.{operations}
use Rattle.kb_publish.specs.Versions.{last, publisher_of, further}
use Rattle.kb_publish.specs.Publishing.{Publishing, Grows}
use Rattle.kb_publish.proofs.Lists.{last-one_more}
use Rattle.kb_publish.proofs.publisher.Publisher.publish.Goals as goal

pub show-requires : goal.show-requires
show-requires g c = further (ap (λ (v : View g.row.V-State.Denot). v.publishes) c.self.invariant.0) c.self.invariant.2

pub invariant_of-self-2 : goal.invariant_of-self-2
invariant_of-self-2 g c =
    let S : Type 0 = g.row.V-State.Denot in
    let notes : List S = c.self.inside.notes in
    let next : S = g.V.Absorb.state c.show.new.press.desk.shown.value.version in
    let noted : c.add.new.book ≡ notes ++ next ∷ [] = c.add.ensures ∙ ap (λ (shown : Shown g.row.V.Denot). notes ++ g.V.Absorb.state shown.version ∷ []) c.published.ensures in
    let seen : (view c.self.inside.press.desk.place).seen ≡ notes = ap (λ (v : View S). v.seen) c.self.invariant.0 in
    let knows = c.in_ok-show.ensures.published ∙ ap (λ (all : List S). publisher_of (all ++ next ∷ [])) seen ∙ ap (λ (all : List S). publisher_of all) (sym noted) in
    (knows, ap (λ (all : List S). last all) noted ∙ last-one_more notes next, c.in_ok-show.ensures.shown.0)

pub returns-clause-publishes : goal.returns-clause-publishes
returns-clause-publishes g c =
    let S : Type 0 = g.row.V-State.Denot in
    let O : Type 0 = g.row.O.Denot in
    let press = c.self.inside.press in
    let notes : List S = c.self.inside.notes in
    let after_press = c.show.new.press in
    let next : S = g.V.Absorb.state after_press.desk.shown.value.version in
    let noted : c.add.new.book ≡ notes ++ next ∷ [] = c.add.ensures ∙ ap (λ (shown : Shown g.row.V.Denot). notes ++ g.V.Absorb.state shown.version ∷ []) c.published.ensures in
    let before : Publishing S O = record { published = notes; pending = operations (drop press.behind press.log.items) } in
    let after : Publishing S O = record { published = c.add.new.book; pending = operations (drop after_press.behind after_press.log.items) } in
    let grows : Grows g.V.Absorb.applied before after = record {
      last_state = g.V.Absorb.state press.desk.shown.value.version;
      was_last = c.self.invariant.1;
      one_more = noted ∙ ap (λ (state : S). notes ++ state ∷ []) c.in_ok-show.ensures.shown.1;
      none_pending = ap (λ (entries : List _). operations entries) c.in_ok-show.ensures.told;
    } in
    subst (λ (value : Publishing S O). Grows g.V.Absorb.applied value after) c.self.view_is grows
