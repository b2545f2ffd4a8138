-- What is carried along the acceptor's words and the multipliers' pairs, in the search for certificates.
use Rattle.std.specs.Prelude.{ℕ, ◌+◌, Bool, true, false, not, ◌&&◌, ◌||◌, nat_eq, nat_lt, List, length, get_or, refl, if◌then◌else◌}
use Rattle.kb_fsa.specs.declared.alphabet.Alphabet.TheVariants.{Plain}
use Rattle.kb_fsa.specs.Table.{Table, step, is_accepting}
use Rattle.kb_fsa.specs.PairSymbols.{pair_symbol, first_letter, second_letter, pads_second}
use Rattle.kb_fsa.specs.EndedWords.{is_symbol}
use Rattle.kb_certificates.specs.Cascade.{Follower}
use Rattle.kb_certificates.specs.declared.agreement.Agreement.{Agreement}
use Rattle.kb_certificates.specs.declared.agreement.Agreement.TheVariants.{Front, Apart}
use Rattle.kb_certificates.specs.declared.comparison.Comparison.{Comparison}
use Rattle.kb_certificates.specs.declared.comparison.Comparison.TheVariants.{Same, Earlier, Later, Reached, Lower}
use Rattle.kb_certificates.specs.declared.word_states.WordStates.{WordStates}

-- along a word, whether a proper prefix isn't accepted; with it, words are accepted that the automaton accepts
abbrev pub rejected_prefix : Table → Follower Bool
rejected_prefix table = record {
  start = false;
  next = λ state rejected letter. rejected || not (is_accepting table state);
  accepts = λ state rejected. is_accepting table state && rejected;
  rejects_nowhere = λ rejected. refl;
}

-- Along a word, the multiplier's state after the pair of the word with itself. A word is accepted that is accepted with
-- x after it, where the multiplier doesn't accept the pair of the word and of that.
abbrev pub own_pair : ℕ → Table → Table → ℕ → Follower ℕ
own_pair n acceptor multiplier x = record {
  start = multiplier.initial;
  next = λ state pair letter.
      if is_symbol (Plain n) letter then step multiplier pair (pair_symbol n letter letter) else 0;
  accepts = λ state pair. is_accepting acceptor (step acceptor state x)
      && not (is_accepting multiplier (step multiplier pair (pair_symbol n (n + 1) x)));
  rejects_nowhere = λ pair. refl;
}

-- along a word, another automaton's state; words are accepted that it doesn't accept
abbrev pub other_state : Table → Table → Follower ℕ
other_state table other = record {
  start = other.initial;
  next = λ state beside letter. step other beside letter;
  accepts = λ state beside. is_accepting table state && not (is_accepting other beside);
  rejects_nowhere = λ beside. refl;
}

-- where an automaton of words is after the letter of one word of a pair; padding is none
abbrev pub after_letter : ℕ → Table → ℕ → ℕ → ℕ
after_letter n table state letter = if nat_eq letter (n + 1) then state else step table state letter

-- along a pair, the acceptor's states after both words; pairs are accepted that have a word which isn't accepted
abbrev pub word_states : ℕ → Table → Table → Follower WordStates
word_states n multiplier acceptor = record {
  start = record { first = acceptor.initial; second = acceptor.initial };
  next = λ state words symbol. record {
    first = after_letter n acceptor words.first (first_letter n symbol);
    second = after_letter n acceptor words.second (second_letter n symbol);
  };
  accepts = λ state words. is_accepting multiplier state
      && not (is_accepting acceptor words.first && is_accepting acceptor words.second);
  rejects_nowhere = λ words. refl;
}

-- how the first word, with x after it, compares with the second one as both go on by a letter
abbrev pub lengthened : Comparison → ℕ → ℕ → Comparison
lengthened Same a b = if nat_lt a b then Earlier else (if nat_eq a b then Same else Later)
lengthened comparison a b = comparison

-- as the second one goes on, and the first has ended, so that x stands where the second has its next letter
abbrev pub outlasted : ℕ → Comparison → ℕ → Comparison
outlasted x Same b = if nat_lt x b then Lower else Reached
outlasted x Later b = Reached
outlasted x comparison b = Lower

-- as a pair of letters is read; where the second word has ended, the first one is not less
abbrev pub compared : ℕ → ℕ → Comparison → ℕ → ℕ → Comparison
compared n x comparison a b = if nat_eq b (n + 1) then Later else (if nat_eq a (n + 1) then
    outlasted x comparison b else lengthened comparison a b)

-- the first word with x after it is less
abbrev pub is_lower : Comparison → Bool
is_lower Lower = true
is_lower comparison = false

-- along a pair, how its words compare; pairs are accepted whose first word, with x after it, is less
abbrev pub comparing : ℕ → ℕ → Table → Follower Comparison
comparing n x multiplier = record {
  start = Same;
  next = λ state comparison symbol.
      compared n x comparison (first_letter n symbol) (second_letter n symbol);
  accepts = λ state comparison. is_accepting multiplier state && is_lower comparison;
  rejects_nowhere = λ comparison. refl;
}

-- how a word that is read agrees with the given one after a letter more
abbrev pub agreed : List ℕ → Agreement → ℕ → Agreement
agreed word (Front place) letter =
    if nat_lt place (length word) && nat_eq (get_or word place 0) letter
    then Front (place + 1) else Apart
agreed word Apart letter = Apart

-- it is the given one
abbrev pub is_whole : List ℕ → Agreement → Bool
is_whole word (Front place) = nat_eq place (length word)
is_whole word Apart = false

-- along a pair, how its second word agrees with the given one; pairs are accepted whose second word is another
abbrev pub other_second : ℕ → Table → List ℕ → Follower Agreement
other_second n table word = record {
  start = Front 0;
  next = λ state agreement symbol.
      if pads_second n symbol then agreement
      else agreed word agreement (second_letter n symbol);
  accepts = λ state agreement. is_accepting table state && not (is_whole word agreement);
  rejects_nowhere = λ agreement. refl;
}
