use Rattle.std.proofs.Common.{◌≡◌, Some, sym, ◌∙◌, arith}
use Rattle.std.proofs.lemmas.List.{take_all}
use Rattle.kb_record.specs.Tree.{Factors, list_value, word_value}
use Rattle.kb_record.specs.View.{value_view}
use Rattle.kb_record.specs.Listed.{listed}
use Rattle.kb_fields.proofs.ListingLemmas.{value_listed, value_other}
use Rattle.kb_subfile.specs.Holds.{list_of_words}
use Rattle.kb_subfile.proofs.WordLemmas.{if_none, list_of_words-places_of, no_words_yet, one_word_more, words_counted}
use Rattle.kb_subfile.proofs.words.word_count.Goals as goal

pub loop-place-init : goal.loop-place-init
loop-place-init c = no_words_yet (value_view c.args.value.now)

pub loop-place-preserved : goal.loop-place-preserved
loop-place-preserved c =
    one_word_more (value_view c.args.value.now) c.loop-place.place _ _ c.place.ensures c.in_ok-word_at.ensures.found c.loop-place.invariant

pub returns-in_err-word_at-clause-other : goal.returns-in_err-word_at-clause-other
returns-in_err-word_at-clause-other c =
    if_none c.from_residual-in_err-word_at.result
    (value_other (λ (word : Factors). Some (word_value word)) list_of_words list_of_words-places_of (value_view c.args.value.now) c.loop-place.place _
    c.place.ensures c.in_err-word_at.ensures.none)

pub returns-clause-listed : goal.returns-clause-listed
returns-clause-listed c =
    let value = value_view c.args.value.now in
    let places = listed value in
    let words = c.loop-place.invariant.words in
    let count = c.in_ok-count.ensures.list.1 in
    let whole = take_all c.loop-place.place places (omega (arith, count)) in
    let is : value ≡ list_value (list_of_words words) =
    value_listed (λ (word : Factors). Some (word_value word)) list_of_words list_of_words-places_of value places
    c.in_ok-count.ensures.list.0 words (sym whole ∙ c.loop-place.invariant.are) in
    (words, words_counted value words is ∙ count, is)
