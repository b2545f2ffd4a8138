-- The left sides that callers see, when a number goes.
use Rattle.std.proofs.Common.{◌≡◌, ℕ, List, length, set, Option, None, option_map, sym, ap, ◌∙◌}
use Rattle.std.proofs.lemmas.List.{map-set}
use Rattle.kb_trie.specs.declared.lookup.Entry.{Entry}
use Rattle.kb_trie.specs.States.{States, word}
use Rattle.kb_trie.specs.Lookups.{lefts_of, states_in}
use Rattle.kb_trie.proofs.Joining.{states_length, states_less}

pub lefts_same : (trie trie' : States) (entries entries' : List (Option Entry)) → trie'.words ≡ trie.words → states_in entries' ≡ states_in entries
    → lefts_of trie'.words (states_in entries') ≡ lefts_of trie.words (states_in entries)
lefts_same trie trie' entries entries' words states =
    ap (λ (ws : List (List ℕ)). lefts_of ws (states_in entries')) words ∙ ap (λ (ss : List (Option ℕ)). lefts_of trie.words ss) states

pub lefts_less : (trie trie' : States) (entries entries' entries'' : List (Option Entry)) (gone : ℕ) → trie'.words ≡ trie.words
    → states_in entries' ≡ states_in entries → entries'' ≡ set entries' gone None
    → lefts_of trie'.words (states_in entries'') ≡ set (lefts_of trie.words (states_in entries)) gone None
lefts_less trie trie' entries entries' entries'' gone words states less =
    ap (λ (ws : List (List ℕ)). lefts_of ws (states_in entries'')) words
    ∙ ap (λ (es : List (Option Entry)). lefts_of trie.words (states_in es)) less
    ∙ ap (λ (ss : List (Option ℕ)). lefts_of trie.words ss) (states_less entries' gone)
    ∙ ap (λ (ss : List (Option ℕ)). lefts_of trie.words (set ss gone None)) states
    ∙ map-set (option_map (word trie.words)) (states_in entries) gone None

-- entries with the same states are as many
pub entries_length : (entries entries' : List (Option Entry)) → states_in entries' ≡ states_in entries → length entries' ≡ length entries
entries_length entries entries' same = sym (states_length entries') ∙ ap length same ∙ states_length entries
