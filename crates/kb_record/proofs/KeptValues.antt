-- Values, read elsewhere.
use Rattle.std.proofs.Common.{◌≡◌, ◌⊎◌, inl, inr, ℕ, List, [], ◌∷◌, length, Bool, true, false, refl, ap, arith}
use Rattle.kb_lexing.specs.Token.{Token, name, number, string, open_round, open_square, rec_word}
use Rattle.kb_lexing.specs.Possible.{IsExpected, IsMark}
use Rattle.kb_lexing.specs.declared.place.Expected.TheVariants as wanted
use Rattle.kb_record.specs.Tree.{number_value, string_value, word_value}
use Rattle.kb_record.specs.Reading.{read, unexpected, record_with, read_value, read_list, read_fields, read_word}
use Rattle.kb_record.specs.declared.cursor.Mark.TheVariants.{OpenRound}
use Rattle.kb_record.proofs.Depths.{read_value_is}
use Rattle.kb_record.proofs.Elsewhere.{Ground, kinds, Beyond, Along, along_on, Past, Same, Any, past_as, same_as, Kept}
use Rattle.kb_record.proofs.KeptTokens.{past_mark, same_mark, Starts, next_same}
use Rattle.kb_record.proofs.KeptWords.{past_map, same_map, kept_word, word_away}

-- a value begins with it
abbrev pub starts_value : Token → Bool
starts_value (name a) = true
starts_value (number z) = true
starts_value (string text) = true
starts_value open_round = true
starts_value open_square = true
starts_value rec_word = true
starts_value _ = false

value_wanted : (t : Token) → starts_value t ≡ true → IsExpected wanted.Value t ⊎ IsMark t
value_wanted (name a) e = inl tt
value_wanted (number z) e = inl tt
value_wanted (string text) e = inl tt
value_wanted open_round e = inr tt
value_wanted open_square e = inr tt
value_wanted rec_word e = inl tt
value_wanted _ e = cc

module _ (g : Ground) where
  pub shorter : (t : Token) (more : List Token) → t ∷ more ≡ g.rest → Beyond g more
  shorter t more e = let whole = ap length e in omega arith

  pub record KeptValue (d : ℕ) : Type 0 where
    pub kept : Kept g (Any g) (read_value d)
    pub starts : Starts g wanted.Value (read_value d) starts_value

  -- ---- values

  module _ (d : ℕ) (list : Kept g (Any g) (read_list d)) (fields : Kept g (Any g) (read_fields d)) where
    kept_record : Kept g (Any g) (record_with (read_fields d))
    kept_record = record {
      past = λ ts h. past_mark g OpenRound wanted.Fields ts _ h (λ r k. past_map g _ (read_fields d r) (fields.past r k));
      same = λ ts us h. same_mark g (Any g) OpenRound wanted.Fields ts us _ _ (inl tt) h (λ r k. past_map g _ (read_fields d r) (fields.past r k)) (λ r s k. same_map g _ _ (read_fields d r) (read_fields d s) (fields.same r s k));
    }

    value_past : (ts : List Token) → Beyond g ts → Past g (read_value d ts)
    value_past [] h = past_as g _ _ (read_value_is d []) h
    value_past (name a ∷ ts) h = past_as g _ _ (read_value_is d (name a ∷ ts)) (past_map g word_value (read_word d (name a ∷ ts)) ((kept_word g d).past (name a ∷ ts) h))
    value_past (open_round ∷ ts) h = past_as g _ _ (read_value_is d (open_round ∷ ts)) (past_map g word_value (read_word d (open_round ∷ ts)) ((kept_word g d).past (open_round ∷ ts) h))
    value_past (rec_word ∷ ts) h = past_as g _ _ (read_value_is d (rec_word ∷ ts)) (kept_record.past ts (omega arith))
    value_past (open_square ∷ ts) h = past_as g _ _ (read_value_is d (open_square ∷ ts)) (list.past ts (omega arith))
    value_past (number z ∷ ts) h = let less : Beyond g ts = omega arith in past_as g _ _ (read_value_is d (number z ∷ ts)) less
    value_past (string text ∷ ts) h = let less : Beyond g ts = omega arith in past_as g _ _ (read_value_is d (string text ∷ ts)) less
    value_past (t ∷ ts) h = past_as g _ _ (read_value_is d (t ∷ ts)) h

    value_fails : (t : Token) (more : List Token) → starts_value t ≡ false → read_value d (t ∷ more) ≡ unexpected wanted.Value (t ∷ more)
    value_fails (name a) more e = cc
    value_fails (number z) more e = cc
    value_fails (string text) more e = cc
    value_fails open_round more e = cc
    value_fails open_square more e = cc
    value_fails rec_word more e = cc
    value_fails t more e = read_value_is d (t ∷ more)

    value_away : (t : Token) (more : List Token) → t ∷ more ≡ g.rest → starts_value t ≡ true → Past g (read_value d (t ∷ more))
    value_away (name a) more w e = past_as g _ _ (read_value_is d (name a ∷ more)) (past_map g word_value (read_word d (name a ∷ more)) (word_away g d (name a ∷ more) refl w))
    value_away open_round more w e = past_as g _ _ (read_value_is d (open_round ∷ more)) (past_map g word_value (read_word d (open_round ∷ more)) (word_away g d (open_round ∷ more) refl w))
    value_away rec_word more w e = past_as g _ _ (read_value_is d (rec_word ∷ more)) (kept_record.past more (shorter rec_word more w))
    value_away open_square more w e = past_as g _ _ (read_value_is d (open_square ∷ more)) (list.past more (shorter open_square more w))
    value_away (number z) more w e = past_as g _ _ (read_value_is d (number z ∷ more)) (shorter (number z) more w)
    value_away (string text) more w e = past_as g _ _ (read_value_is d (string text ∷ more)) (shorter (string text) more w)
    value_away _ more w e = cc

    value_token : (t : Token) (ts us : List Token) → Along g ts us → Same g (Any g) (read_value d (t ∷ ts)) (read_value d (t ∷ us))
    value_token (name a) ts us h =
        same_as g (Any g) _ _ _ _ (read_value_is d (name a ∷ ts)) (read_value_is d (name a ∷ us))
        (same_map g word_value word_value (read_word d (name a ∷ ts)) (read_word d (name a ∷ us)) ((kept_word g d).same _ _ (along_on g (name a) (name a) ts us (inl refl) h)))
    value_token open_round ts us h =
        same_as g (Any g) _ _ _ _ (read_value_is d (open_round ∷ ts)) (read_value_is d (open_round ∷ us))
        (same_map g word_value word_value (read_word d (open_round ∷ ts)) (read_word d (open_round ∷ us)) ((kept_word g d).same _ _ (along_on g open_round open_round ts us (inl refl) h)))
    value_token rec_word ts us h = same_as g (Any g) _ _ _ _ (read_value_is d (rec_word ∷ ts)) (read_value_is d (rec_word ∷ us)) (kept_record.same ts us h)
    value_token open_square ts us h = same_as g (Any g) _ _ _ _ (read_value_is d (open_square ∷ ts)) (read_value_is d (open_square ∷ us)) (list.same ts us h)
    value_token (number z) ts us h =
        let found : Same g (Any g) (read (number_value z) ts) (read (number_value z) us) = inr (number_value z, us, refl, tt, h) in
        same_as g (Any g) _ _ _ _ (read_value_is d (number z ∷ ts)) (read_value_is d (number z ∷ us)) found
    value_token (string text) ts us h =
        let found : Same g (Any g) (read (string_value text) ts) (read (string_value text) us) = inr (string_value text, us, refl, tt, h) in
        same_as g (Any g) _ _ _ _ (read_value_is d (string text ∷ ts)) (read_value_is d (string text ∷ us)) found
    value_token t ts us h =
        same_as g (Any g) _ (unexpected wanted.Value (t ∷ ts)) _ (unexpected wanted.Value (t ∷ us)) (read_value_is d (t ∷ ts)) (read_value_is d (t ∷ us)) (inr (λ same. (t ∷ us, refl, along_on g t t ts us (inl refl) h)))

    value_names : (a b : List ℕ) (ts us : List Token) → Along g ts us → Same g (Any g) (read_value d (name a ∷ ts)) (read_value d (name b ∷ us))
    value_names a b ts us h =
        same_as g (Any g) _ _ _ _ (read_value_is d (name a ∷ ts)) (read_value_is d (name b ∷ us))
        (same_map g word_value word_value (read_word d (name a ∷ ts)) (read_word d (name b ∷ us)) ((kept_word g d).same _ _ (along_on g (name a) (name b) ts us (inr (tt, tt)) h)))

    value_starts : Starts g wanted.Value (read_value d) starts_value
    value_starts = record { nil = read_value_is d []; fails = value_fails; away = value_away; wanted = value_wanted }

    pub value_from : KeptValue d
    value_from = record {
      kept = record {
        past = value_past;
        same = next_same g (Any g) wanted.Value (read_value d) starts_value value_starts (λ t u ts us kind h. kinds t u (λ x y. Same g (Any g) (read_value d (x ∷ ts)) (read_value d (y ∷ us))) kind (λ x. value_token x ts us h) (λ a b. value_names a b ts us h));
      };
      starts = value_starts;
    }
