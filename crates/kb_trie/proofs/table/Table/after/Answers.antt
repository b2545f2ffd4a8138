use Rattle.std.proofs.Common.{◌≡◌, ℕ, ◌+◌, ◌*◌, ◌<◌, List, length, get_or, sym, subst, arith}
use Rattle.std.proofs.lemmas.List.{get_or_read}
use Rattle.kb_trie.specs.Steps.{IsStep}
use Rattle.kb_trie.proofs.Rows.{place_before}
use Rattle.kb_trie.proofs.table.Table.after.Goals as goal

pub returns-then-column-self-clause-some : goal.returns-then-column-self-clause-some
returns-then-column-self-clause-some c words in_words are =
    let width : ℕ = c.args.self.now.width in
    let rows : List ℕ = c.args.self.now.rows.items in
    let state : ℕ = c.args.state in
    let letter : ℕ = c.args.letter in
    let within : state * width + letter < length rows =
    omega (arith, place_before (length words) state width letter in_words c.if-column-self.true, are.room) in
    let value : c.index.result.now ≡ get_or rows (state * width + letter) 0 =
    get_or_read rows (state * width + letter) c.index.result.now within c.index.ensures 0 in
    subst (IsStep words state letter) (sym value) (are.each state letter in_words c.if-column-self.true)
