-- States that are added for a word.
use Rattle.std.proofs.Common.{◌≡◌, ℕ, ◌+◌, ◌<◌, List, [], ◌∷◌, ◌++◌, length, take, drop, replicate, get_or, sym, ap, ◌∙◌, subst, arith, append_assoc, length-append}
use Rattle.std.proofs.lemmas.List.{replicate-append-replicate, append-nil, take-append-drop, take_more, get_or_push, length_push}
use Rattle.std.proofs.lemmas.List.Elements.{All-nil, All-cons, All-append, All-weaker}
use Rattle.kb_trie.specs.States.{BeginsWith, Grows, HasWord, States}

pub grows_none : (w : List ℕ) (before after : States) → after.words ≡ before.words → after.numbers ≡ before.numbers → Grows w before after
grows_none w before after same numbers =
    record { more = []; words = same ∙ sym (append-nil before.words); each = All-nil (BeginsWith w); numbers = numbers ∙ sym (append-nil before.numbers) }

pub grows_one : (w : List ℕ) (before after : States) → after.words ≡ before.words ++ w ∷ [] → after.numbers ≡ before.numbers ++ 0 ∷ [] → Grows w before after
grows_one w before after same numbers =
    record { more = w ∷ []; words = same; each = All-cons (BeginsWith w) w [] (record { rest = []; whole = sym (append-nil w) }) (All-nil (BeginsWith w)); numbers = numbers }

begins_within : (w u v : List ℕ) → BeginsWith w u → BeginsWith u v → BeginsWith w v
begins_within w u v outer inner =
    record {
      rest = inner.rest ++ outer.rest;
      whole = outer.whole ∙ ap (λ (x : List ℕ). x ++ outer.rest) inner.whole ∙ append_assoc v inner.rest outer.rest;
    }

-- the states for a beginning of the word, and then those of the word
pub grows_more : (w u : List ℕ) (one two three : States) → BeginsWith w u → Grows w one two → Grows u two three → Grows w one three
grows_more w u one two three begins first second =
    record {
      more = first.more ++ second.more;
      words =
          second.words ∙ ap (λ (ws : List (List ℕ)). ws ++ second.more) first.words ∙ append_assoc one.words first.more second.more;
      each =
          All-append (BeginsWith w) first.more second.more first.each
          (All-weaker (BeginsWith u) (BeginsWith w) (λ v inner. begins_within w u v begins inner) second.more second.each);
      numbers =
          second.numbers ∙ ap (λ (ns : List ℕ). ns ++ replicate (length second.more) 0) first.numbers
          ∙ append_assoc one.numbers (replicate (length first.more) 0) (replicate (length second.more) 0)
          ∙ ap (λ (ns : List ℕ). one.numbers ++ ns) (replicate-append-replicate (length first.more) (length second.more) 0)
          ∙ ap (λ (n : ℕ). one.numbers ++ replicate n 0) (sym (length-append first.more second.more));
    }

pub begins_take : (w : List ℕ) (i : ℕ) → BeginsWith w (take i w)
begins_take w i = record { rest = drop i w; whole = sym (take-append-drop i w) }

-- the state that came has its word
pub has_word_new : (words words' : List (List ℕ)) (w : List ℕ) (state : ℕ) → words' ≡ words ++ w ∷ [] → state ≡ length words → HasWord words' w state
has_word_new words words' w state same last =
    let P : List (List ℕ) → Type 0 = λ ws. HasWord ws w state in
    subst P (sym same) (record {
      within = omega (arith, length_push words w);
      is = get_or_push words w [] state (sym last);
    })

-- a letter more of the word
pub has_word_more : (words : List (List ℕ)) (w v : List ℕ) (i x state : ℕ) → i < length w → x ≡ get_or w i 0 → v ≡ take i w
    → HasWord words (v ++ x ∷ []) state → HasWord words (take (i + 1) w) state
has_word_more words w v i x state within x_is v_is has =
    let P : List ℕ → Type 0 = λ u. HasWord words u state in
    let same : v ++ x ∷ [] ≡ take (i + 1) w =
    ap (λ (u : List ℕ). u ++ x ∷ []) v_is ∙ ap (λ (y : ℕ). take i w ++ y ∷ []) x_is ∙ sym (take_more w i 0 within) in
    subst P same has

-- the states for a letter more
pub grows_letter : (w v : List ℕ) (i x : ℕ) (one two three : States) → i < length w → x ≡ get_or w i 0 → v ≡ take i w → Grows w one two
    → Grows (v ++ x ∷ []) two three → Grows w one three
grows_letter w v i x one two three within x_is v_is first second =
    let P : List ℕ → Type 0 = λ u. Grows u two three in
    let same : v ++ x ∷ [] ≡ take (i + 1) w =
    ap (λ (u : List ℕ). u ++ x ∷ []) v_is ∙ ap (λ (y : ℕ). take i w ++ y ∷ []) x_is ∙ sym (take_more w i 0 within) in
    grows_more w (take (i + 1) w) one two three (begins_take w (i + 1)) first (subst P same second)
