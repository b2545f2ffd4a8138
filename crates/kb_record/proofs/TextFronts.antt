-- Fronts of words and texts.
use Rattle.std.proofs.Common.{◌≡◌, ℕ, ◌≤◌, List, [], ◌∷◌, ◌++◌, sym, ap, ◌∙◌, subst, arith, append_assoc, ◌⊎◌, inl, inr}
use Rattle.kb_lexing.specs.Token.{Token, name, assign, comma, semicolon}
use Rattle.kb_record.specs.Tree.{Factors, TextTree, record_value}
use Rattle.kb_record.specs.Grammar.{IsText, IsWordText, value_tokens}
use Rattle.kb_record.specs.Nesting.{open_behind, word_nesting, text_nesting}
use Rattle.kb_record.proofs.OpenBrackets.{Within, front_within, word_within, value_within}

along : (m : ℕ) (a b : List Token) → a ≡ b → Within m 0 b → Within m 0 a
along m a b e h = let P : List Token → Type 0 = λ ts. Within m 0 ts in subst P (sym e) h

-- at most m are open behind a front of the tokens, where a comma comes behind them
pub before_comma : (m : ℕ) (tokens more : List Token) → Within m 0 ((tokens ++ more) ++ comma ∷ []) → open_behind 0 tokens ≤ m
before_comma m tokens [] h = front_within m 0 tokens comma [] (along m _ _ (sym (append_assoc tokens [] (comma ∷ []))) h)
before_comma m tokens (t ∷ more) h = front_within m 0 tokens t (more ++ comma ∷ []) (along m _ _ (sym (append_assoc tokens (t ∷ more) (comma ∷ []))) h)

pub word_fronts : (tokens more : List Token) (factors : Factors) → IsWordText (tokens ++ more) factors → open_behind 0 tokens ≤ word_nesting factors
word_fronts tokens more factors h =
    before_comma (word_nesting factors) tokens more (along _ _ _ (ap (λ ts. ts ++ comma ∷ []) h.1) (word_within factors (word_nesting factors) 0 (comma ∷ []) (omega arith) (omega arith, tt)))

pub text_fronts : (tokens more : List Token) (text : TextTree) → IsText (tokens ++ more) text → open_behind 0 tokens ≤ text_nesting text
text_fronts tokens more text h = before_comma (text_nesting text) tokens more (go h.1)
  where
    whole : List Token
    whole = name text.title ∷ assign ∷ value_tokens (record_value text.fields)

    ended : (end : List Token) → Within (text_nesting text) 0 end → Within (text_nesting text) 0 (whole ++ end)
    ended end w = (omega arith, (omega arith, value_within (record_value text.fields) (text_nesting text) 0 end (omega arith) w))

    go : ((tokens ++ more ≡ whole) ⊎ (tokens ++ more ≡ whole ++ semicolon ∷ [])) → Within (text_nesting text) 0 ((tokens ++ more) ++ comma ∷ [])
    go (inl e) = along _ _ _ (ap (λ ts. ts ++ comma ∷ []) e) (ended (comma ∷ []) (omega arith, tt))
    go (inr e) = along _ _ _ (ap (λ ts. ts ++ comma ∷ []) e ∙ append_assoc whole (semicolon ∷ []) (comma ∷ [])) (ended (semicolon ∷ comma ∷ []) (omega arith, (omega arith, tt)))
