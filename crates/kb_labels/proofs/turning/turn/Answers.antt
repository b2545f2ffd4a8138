use Rattle.std.proofs.Common.{◌≡◌, ◌++◌, ℕ, List, Some, ap, ◌∙◌, subst}
use Rattle.kb_word.specs.Relations.{inverse_word}
use Rattle.kb_word.specs.Rewriting.{NormalForm}
use Rattle.kb_fsa.specs.Padding.{letters_of}
use Rattle.kb_fsa.specs.PairSymbols.{second_letter}
use Rattle.kb_diff.specs.Groups.{group_of}
use Rattle.kb_diff.specs.Tables.{listed}
use Rattle.kb_diff.proofs.Reading.{on_ok_more, listed_slice}
use Rattle.kb_labels.specs.Labels.{Turns}
use Rattle.kb_labels.proofs.turning.turn.Goals as goal

pub returns : goal.returns
returns g c =
    let rules = g.R.Reducer.rules c.args.reducer.now in
    let presentation = c.args.presentation.now in
    let d : List ℕ = c.args.label.now in
    let symbol : ℕ = c.args.symbol in
    let word : List ℕ = c.reduce.new.w in
    let inverse : List ℕ = listed c.inverse_of-inverse.result in
    let back : List ℕ = letters_of presentation.n (second_letter presentation.n symbol) in
    let front_slice : List ℕ = c.as_slice.result.now in
    let back_slice : List ℕ = c.as_slice-2.result.now in
    let N : List ℕ → Type 0 = λ w. NormalForm rules w word in
    let P : ℕ → Type 0 = λ number. inverse_word presentation.inv (letters_of presentation.n number) ≡ Some inverse in
    let front_is : front_slice ≡ inverse = listed_slice c.inverse_of-inverse.result front_slice c.as_slice.ensures in
    let back_is : back_slice ≡ back =
    listed_slice c.letter_of-letter.result back_slice c.as_slice-2.ensures ∙ c.letter_of-letter.ensures ∙ ap (letters_of presentation.n) c.second.ensures in
    let read : c.append.new.self ≡ inverse ++ d =
    c.in_ok-append.ensures.ok ∙ ap (λ (w : List ℕ). w ++ d)
    (c.in_ok-extend_from_slice.ensures ∙ ap (λ (w : List ℕ). w ++ front_slice) c.clear.ensures ∙ front_is) in
    let is : c.extend_from_slice-2.new.self ≡ inverse ++ d ++ back =
    c.in_ok-extend_from_slice-2.ensures ∙ ap (λ (w : List ℕ). w ++ back_slice) read ∙ ap (λ (w : List ℕ). (inverse ++ d) ++ w) back_is in
    on_ok_more (NormalForm rules c.extend_from_slice-2.new.self word) (Turns (group_of presentation rules) d symbol word) c.reduce.result
    (λ normal. record { inverse = inverse; inverts = subst P c.first.ensures c.inverse_of-inverse.ensures; normal = subst N is normal })
    c.reduce.ensures.ok
