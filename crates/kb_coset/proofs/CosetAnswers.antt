-- The normal form of a marked word has the least word of the coset behind its marker.
use Rattle.std.proofs.Common.{ℕ, List, length, drop, sym, ap, subst}
use Rattle.kb_word.specs.Congruence.{IsLeast}
use Rattle.kb_word.specs.Relations.{IsOver}
use Rattle.kb_word.specs.WordOrders.{Below}
use Rattle.kb_word.specs.Words.{Pair}
use Rattle.kb_coset.specs.Marked.{ArePresentation, marked_order, marked_parts, marked_word, relations}
use Rattle.kb_coset.proofs.LeastMarked.{least_marked}
use Rattle.kb_coset.specs.CosetWords.{Cosets, IsLeastOf, AreCosetRules}

pub least_behind : (n : ℕ) (cosets : Cosets) (rules : List Pair) (word least : List ℕ) → ArePresentation n cosets.parts
    → AreCosetRules n cosets rules → IsOver (length cosets.parts.names) word
    → IsLeast (Below (marked_order cosets.parts.order)) (relations (marked_parts n cosets.generators cosets.parts)) (marked_word n word) least
    → IsLeastOf cosets word (drop 1 least)
least_behind n cosets rules word least is are over minimal =
    let O : ℕ → Type 0 = λ k. IsOver k word in
    let found = least_marked n cosets.generators cosets.parts is are.letters word least (subst O is.one_name_each over) minimal in
    let P : List ℕ → Type 0 = λ m. IsLeastOf cosets word m in
    subst P (sym (ap (drop 1) found.1)) found.2
