use Rattle.std.proofs.Common.{◌≡◌, List, ◌++◌, Option, None, length, set, take, drop, sym, ap, ◌∙◌, subst}
use Rattle.std.proofs.lemmas.List.{get_or_read, with_items_is}
use Rattle.std.proofs.lemmas.Option.{none-some}
use Rattle.std.specs.Prelude.{get_or}
use Rattle.kb_trie.specs.declared.lookup.Entry.{Entry}
use Rattle.kb_trie.specs.LeftSides.{HasAt, LeftSides}
use Rattle.kb_trie.specs.Lookups.{left_sides, lefts_of, states_in}
use Rattle.kb_trie.proofs.HasAt.{has_within}
use Rattle.kb_trie.proofs.Changed.{entries_length, lefts_less, lefts_same}
use Rattle.kb_trie.proofs.Entries.{at_state, entry_here}
use Rattle.kb_trie.proofs.Numbers.{on_err_any}
use Rattle.kb_trie.proofs.lookup.Lookup.remove.Goals as goal

pub unreachable-requires : goal.unreachable-requires
unreachable-requires c =
    let lookup = c.self.inside in
    let P : LeftSides → Type 0 = λ v. HasAt v.lefts c.requires.0 c.args.number in
    let has : P (left_sides lookup.trie lookup.entries.items) = subst P (sym c.self.view_is) c.requires.1 in
    let at = at_state lookup.trie lookup.entries.items c.self.invariant c.requires.0 c.args.number has in
    let here = entry_here lookup.entries.items at.state c.args.number at.has in
    let read : c.index.result.now ≡ get_or lookup.entries.items c.args.number None =
    get_or_read lookup.entries.items c.args.number c.index.result.now (has_within lookup.entries.items here.0 c.args.number here.1)
    c.index.ensures None in
    none-some here.0 (sym c.in_default.is ∙ read ∙ here.1)

pub returns-in_err-leave-clause-err : goal.returns-in_err-leave-clause-err
returns-in_err-leave-clause-err c =
    let lookup = c.self.inside in
    let entries : List (Option Entry) = c.leave.new.entries in
    let long : length entries ≡ lookup.entries.len =
    entries_length c.deref_mut.result.now entries c.leave.ensures.states ∙ c.deref_mut.ensures.len in
    let items : take lookup.entries.len (entries ++ drop (length entries) lookup.entries.items) ≡ entries =
    with_items_is lookup.entries entries long in
    let states : states_in entries ≡ states_in lookup.entries.items =
    c.leave.ensures.states ∙ ap (λ (es : List (Option Entry)). states_in es) c.deref_mut.ensures.value in
    on_err_any c.from_residual.result
    (ap (λ (es : List (Option Entry)). lefts_of c.leave.new.trie.words (states_in es)) items
    ∙ lefts_same lookup.trie c.leave.new.trie lookup.entries.items entries c.leave.ensures.words states
    ∙ ap (λ (v : LeftSides). v.lefts) c.self.view_is)

pub returns-clause-ok : goal.returns-clause-ok
returns-clause-ok c =
    let lookup = c.self.inside in
    let entries : List (Option Entry) = c.leave.new.entries in
    let long : length entries ≡ lookup.entries.len =
    entries_length c.deref_mut.result.now entries c.leave.ensures.states ∙ c.deref_mut.ensures.len in
    let items : take lookup.entries.len (entries ++ drop (length entries) lookup.entries.items) ≡ entries =
    with_items_is lookup.entries entries long in
    let states : states_in entries ≡ states_in lookup.entries.items =
    c.leave.ensures.states ∙ ap (λ (es : List (Option Entry)). states_in es) c.deref_mut.ensures.value in
    lefts_less lookup.trie c.leave.new.trie lookup.entries.items entries
    (set (take lookup.entries.len (entries ++ drop (length entries) lookup.entries.items)) c.args.number None) c.args.number
    c.leave.ensures.words states (ap (λ (es : List (Option Entry)). set es c.args.number None) items)
    ∙ ap (λ (v : LeftSides). set v.lefts c.args.number None) c.self.view_is
