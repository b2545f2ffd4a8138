use Rattle.std.proofs.Common.{List, Option, sym, subst}
use Rattle.kb_trie.specs.declared.lookup.Entry.{Entry}
use Rattle.kb_trie.specs.Lookups.{IsLookup}
use Rattle.kb_trie.proofs.Entries.{lookup_none}
use Rattle.kb_trie.proofs.lookup.Lookup.new.Goals as goal

pub invariant_of-result : goal.invariant_of-result
invariant_of-result c =
    let P : List (Option Entry) → Type 0 = λ es. IsLookup c.in_ok-trie.trie es in
    subst P (sym c.new-2.ensures.items) (lookup_none c.in_ok-trie.trie c.in_ok-trie.ensures.words c.in_ok-trie.ensures.numbers)
