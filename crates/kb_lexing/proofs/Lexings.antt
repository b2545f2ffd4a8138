-- The tokens of a text as they are read one by one.
use Rattle.std.proofs.Common.{◌≡◌, ℕ, ◌≤◌, Bool, true, false, List, [], ◌∷◌, ◌++◌, length, refl, sym, ap, ◌∙◌, subst, append_assoc}
use Rattle.std.specs.Prelude.{◌==◌}
use Rattle.kb_lexing.specs.Token as tree
use Rattle.kb_lexing.specs.Spelling.{Spells, FirstToken, TokensOf, is_blank, after_gap, after_comment}
use Rattle.kb_lexing.proofs.FirstTokens.{spells_some, same_head}

-- what stands before the rest that f leaves of a text, and before any other rest with its first byte; and where a
-- newline stands behind it, a gap goes on
pub record Front (f : List ℕ → List ℕ) (text : List ℕ) : Type 0 where
  pub front : List ℕ
  pub whole : text ≡ front ++ f text
  pub stays : (b : ℕ) (more other : List ℕ) → f text ≡ b ∷ more → f (front ++ b ∷ other) ≡ b ∷ other
  pub ends : (other : List ℕ) → f (front ++ 10 ∷ other) ≡ after_gap other

-- one byte before
before_gap : (b : ℕ) (bytes : List ℕ) (f : List ℕ → List ℕ) (step : (bytes : List ℕ) → after_gap (b ∷ bytes) ≡ f bytes) → Front f bytes → Front after_gap (b ∷ bytes)
before_gap b bytes f step h = record {
  front = b ∷ h.front;
  whole = ap (λ x. b ∷ x) h.whole ∙ ap (λ x. (b ∷ h.front) ++ x) (sym (step bytes));
  stays = λ c more other e. step (h.front ++ c ∷ other) ∙ h.stays c more other (sym (step bytes) ∙ e);
  ends = λ other. step (h.front ++ 10 ∷ other) ∙ h.ends other;
}

before_comment : (b : ℕ) (bytes : List ℕ) (f : List ℕ → List ℕ) (step : (bytes : List ℕ) → after_comment (b ∷ bytes) ≡ f bytes) → Front f bytes → Front after_comment (b ∷ bytes)
before_comment b bytes f step h = record {
  front = b ∷ h.front;
  whole = ap (λ x. b ∷ x) h.whole ∙ ap (λ x. (b ∷ h.front) ++ x) (sym (step bytes));
  stays = λ c more other e. step (h.front ++ c ∷ other) ∙ h.stays c more other (sym (step bytes) ∙ e);
  ends = λ other. step (h.front ++ 10 ∷ other) ∙ h.ends other;
}

gap_at : (b : ℕ) (bytes : List ℕ) (t u : Bool) → is_blank b ≡ t → (b == 35) ≡ u → Front after_gap bytes → Front after_comment bytes → Front after_gap (b ∷ bytes)
gap_at b bytes true u blank hash gap comment = before_gap b bytes after_gap (λ x. rw blank) gap
gap_at b bytes false true blank hash gap comment = before_gap b bytes after_comment (λ x. rw (blank, hash)) comment
gap_at b bytes false false blank hash gap comment = record {
  front = [];
  whole = sym (alone bytes);
  stays = λ c more other e.
      let same : b ≡ c = same_head (sym (alone bytes) ∙ e) in
      subst (λ x. after_gap (x ∷ other) ≡ x ∷ other) same (alone other);
  ends = λ other. refl;
}
  where
    alone : (bytes : List ℕ) → after_gap (b ∷ bytes) ≡ b ∷ bytes
    alone bytes = rw (blank, hash)

comment_at : (b : ℕ) (bytes : List ℕ) (t : Bool) → (b == 10) ≡ t → Front after_gap bytes → Front after_comment bytes → Front after_comment (b ∷ bytes)
comment_at b bytes true newline gap comment = before_comment b bytes after_gap (λ x. rw newline) gap
comment_at b bytes false newline gap comment = before_comment b bytes after_comment (λ x. rw newline) comment

no_front : (f : List ℕ → List ℕ) → f [] ≡ [] → ((other : List ℕ) → f (10 ∷ other) ≡ after_gap other) → Front f []
no_front f e newline = record { front = []; whole = sym e; stays = λ b more other h. absurd (let k = sym e ∙ h in cc); ends = newline }

mutual
  pub gap_front : (text : List ℕ) → Front after_gap text
  gap_front [] = no_front after_gap refl (λ other. refl)
  gap_front (b ∷ bytes) = gap_at b bytes (is_blank b) (b == 35) refl refl (gap_front bytes) (comment_front bytes)

  comment_front : (text : List ℕ) → Front after_comment text
  comment_front [] = no_front after_comment refl (λ other. refl)
  comment_front (b ∷ bytes) = comment_at b bytes (b == 10) refl (gap_front bytes) (comment_front bytes)

-- the text up to some tail, and its tokens
pub record UpTo (text tail : List ℕ) (tokens : List tree.Token) : Type 0 where
  pub front : List ℕ
  pub whole : text ≡ front ++ tail
  pub spelled : TokensOf front tokens

-- a token that begins the text begins a front that holds it too
cut_first : (token : tree.Token) (spelling rest more tail : List ℕ) (bytes : List ℕ) → Spells token spelling → bytes ≡ spelling ++ rest
    → ((other : tree.Token) (front back : List ℕ) → Spells other front → bytes ≡ front ++ back → length front ≤ length spelling)
    → rest ≡ more ++ tail → FirstToken (spelling ++ more) token more
cut_first token spelling rest more tail bytes spelled whole longest split = record {
  spelling = spelling;
  spelled = spelled;
  whole = refl;
  longest = λ other front back h e. longest other front (back ++ tail) h
      (whole ∙ ap (λ x. spelling ++ x) split ∙ sym (append_assoc spelling more tail) ∙ ap (λ x. x ++ tail) e ∙ append_assoc front back tail);
}

-- the token before tokens that are read
pub token_before : (text : List ℕ) (token : tree.Token) (rest more tail : List ℕ) (tokens : List tree.Token) → FirstToken (after_gap text) token rest
    → rest ≡ more ++ tail → TokensOf more tokens → UpTo text tail (token ∷ tokens)
token_before text token rest more tail tokens first split spelled =
    go first.spelling first.spelled first.whole first.longest
  where
    go : (spelling : List ℕ) → Spells token spelling → after_gap text ≡ spelling ++ rest
        → ((other : tree.Token) (front back : List ℕ) → Spells other front → after_gap text ≡ front ++ back → length front ≤ length spelling)
        → UpTo text tail (token ∷ tokens)
    go [] h whole longest = absurd (spells_some token h)
    go (b ∷ bytes) h whole longest =
        let gap = gap_front text in
        record {
          front = gap.front ++ (b ∷ bytes ++ more);
          whole = gap.whole ∙ ap (λ x. gap.front ++ x) (whole ∙ ap (λ x. (b ∷ bytes) ++ x) split ∙ sym (append_assoc (b ∷ bytes) more tail)) ∙ sym (append_assoc gap.front (b ∷ bytes ++ more) tail);
          spelled = (more, subst (λ x. FirstToken x token more) (sym (gap.stays b (bytes ++ rest) (bytes ++ more) whole)) (cut_first token (b ∷ bytes) rest more tail (after_gap text) h whole longest split), spelled);
        }
