use Rattle.std.proofs.Common.{◌≡◌, ◌+◌, List, Option, length, sym, ap, subst, arith}
use Rattle.kb_trie.specs.declared.lookup.Entry.{Entry}
use Rattle.kb_trie.specs.LeftSides.{HasAt, IsLeastOf, LeftSides}
use Rattle.kb_trie.specs.Lookups.{kept, left_sides}
use Rattle.kb_trie.proofs.HasAt.{has_within}
use Rattle.kb_trie.proofs.Entries.{lefts_length}
use Rattle.kb_trie.proofs.Looking.{next_at}
use Rattle.kb_trie.proofs.lookup.Lookup.next_at.Goals as goal

pub next_of-requires : goal.next_of-requires
next_of-requires c =
    let lookup = c.self.inside in
    let P : LeftSides → Type 0 = λ v. HasAt v.lefts c.requires.0 c.args.number in
    let has : P (left_sides lookup.trie lookup.entries.items) = subst P (sym c.self.view_is) c.requires.1 in
    omega (arith, has_within _ c.requires.0 c.args.number has, lefts_length lookup.trie lookup.entries.items, ap length c.deref.ensures.value)

pub returns : goal.returns
returns c left has =
    let lookup = c.self.inside in
    let P : LeftSides → Type 0 = λ v. HasAt v.lefts left c.args.number in
    let Q : LeftSides → Type 0 = λ v. IsLeastOf (HasAt v.lefts left) (c.args.number + 1) c.next_of.result in
    let E : List (Option Entry) → Type 0 = λ es. (entry : Entry) → HasAt es entry c.args.number → c.next_of.result ≡ kept entry.next in
    subst Q c.self.view_is
    (next_at lookup.trie lookup.entries.items c.self.invariant c.args.number c.next_of.result (subst E c.deref.ensures.value c.next_of.ensures) left
    (subst P (sym c.self.view_is) has))
