-- What stands at the front of a text, step by step.
use Rattle.std.proofs.Common.{◌≡◌, ℕ, suc, ◌+◌, ◌<◌, ◌≤◌, Bool, true, false, if◌then◌else◌, nat_lt, take, drop, ℤ, List, [], ◌∷◌, ◌++◌, length, length-append, append_assoc, append-nil, Option, None, Some, Result, Ok, Err, refl, sym, ap, ◌∙◌, subst, arith}
use Rattle.std.specs.Prelude.{IfSome}
use Rattle.std.proofs.lemmas.List.{take-append-drop, take_at, drop_at}
use Rattle.kb_lexing.specs.Token.{Token, number, open_round, close_round, star, caret}
use Rattle.kb_lexing.specs.Spelling.{Spells, FirstToken, TokensOf, after_gap}
use Rattle.kb_lexing.proofs.FirstTokens.{spells_some}
use Rattle.kb_record.specs.Tree.{Factor, named, grouped, Factors, no_factors, factor}
use Rattle.kb_record.specs.Grammar.{IsWord, AreFactorTrees, power_tokens, word_tokens, factor_tokens, more_factors}
use Rattle.kb_record.specs.Nesting.{deepest, word_nesting}
use Rattle.kb_record.specs.Faults.{Meaning}
use Rattle.kb_record.specs.Meaning.{WordFault, too_long, most_letters, and_then, name_meaning, power_meaning, factor_meaning, product, product_meaning}
use Rattle.kb_wordreader.specs.Products.{TakesFirst}
use Rattle.kb_wordreader.specs.Factors.{Adds, NameFront, PowerFront, BaseFront, FactorFront, FactorsFront, GroupFront}
use Rattle.kb_wordreader.proofs.PassLemmas.{star_first, caret_first, open_first, close_first, gap_length}
use Rattle.kb_wordreader.proofs.ProductLemmas.{product_fits}

-- ---- names

product_grown : (so_far w new : List ℕ) → product so_far w ≡ Ok new → new ≡ so_far ++ w
product_grown so_far w new h = go (nat_lt most_letters (length so_far + length w)) h
  where
    go : (t : Bool) → (if t then Err too_long else Ok (so_far ++ w)) ≡ Ok new → new ≡ so_far ++ w
    go true h = absurd cc
    go false h = cc

pub name_front : (names : List (List ℕ)) (text rest old new : List ℕ) → TakesFirst names text rest old None new None → Adds (NameFront names text rest) old new
name_front names text rest old new t = go (name_meaning names t.spelling) refl t.takes
  where
    go : (r : Result (List ℕ) WordFault) → name_meaning names t.spelling ≡ r → and_then r (product old) ≡ Ok new → Adds (NameFront names text rest) old new
    go (Ok w) e h = record { letters = w; is_read = record { spelling = t.spelling; first = t.first; means = e }; grown = product_grown old w new h }
    go (Err fault) e h = absurd cc

first_shorter : (token : Token) (text spelling rest : List ℕ) → Spells token spelling → text ≡ spelling ++ rest → length rest < length text
first_shorter token text [] rest spelled whole = absurd (spells_some token spelled)
first_shorter token text (b ∷ spelling) rest spelled whole = omega (arith, ap length whole, length-append spelling rest)

-- what stands behind a token is shorter
pub token_shorter : (token : Token) (text rest : List ℕ) → FirstToken (after_gap text) token rest → length rest < length text
token_shorter token text rest first =
    let less = first_shorter token (after_gap text) first.spelling rest first.spelled first.whole in
    omega (arith, less, gap_length text)

pub mark_shorter : (b : ℕ) (text rest : List ℕ) → after_gap text ≡ b ∷ rest → length rest < length text
mark_shorter b text rest at = let one = ap length at in omega (arith, one, gap_length text)

-- the token of a mark behind a gap
mark_at : (token : Token) (b : ℕ) (text rest : List ℕ) → after_gap text ≡ b ∷ rest → FirstToken (b ∷ rest) token rest → FirstToken (after_gap text) token rest
mark_at token b text rest at first = subst (λ x. FirstToken x token rest) (sym at) first

module _ (names : List (List ℕ)) (inverses : List (Option ℕ)) where
  -- ---- powers

  no_power : (text base : List ℕ) → PowerFront names inverses text text base base
  no_power text base = record { power = None; onward = λ tokens h. h; means = refl }

  pub no_power_added : (text old : List ℕ) (start : ℕ) → Adds (PowerFront names inverses text text (drop start old)) (take start old) old
  no_power_added text old start = record { letters = drop start old; is_read = no_power text (drop start old); grown = sym (take-append-drop start old) }

  pub some_power : (text behind rest base letters : List ℕ) (z : ℤ) → after_gap text ≡ 94 ∷ behind → FirstToken (after_gap behind) (number z) rest
      → power_meaning names inverses (Some z) base ≡ Ok letters → PowerFront names inverses text rest base letters
  some_power text behind rest base letters z at first means = record {
    power = Some z;
    onward = λ tokens h. (behind, mark_at caret 94 text behind at (caret_first behind), (rest, first, h));
    means = means;
  }

  -- ---- factors

  pub name_base : (depth : ℕ) (text rest letters : List ℕ) → NameFront names text rest letters → BaseFront names inverses depth text rest letters
  name_base depth text rest letters h = record {
    tree = named h.spelling;
    formed = λ power. tt;
    shallow = λ power. omega arith;
    onward = λ power tokens more. (rest, h.first, more);
    means = λ power. ap (λ r. and_then r (power_meaning names inverses power)) h.means;
  }

  pub group_base : (depth : ℕ) (text inside rest letters : List ℕ) → after_gap text ≡ 40 ∷ inside → GroupFront names inverses depth inside rest letters
      → BaseFront names inverses depth text rest letters
  group_base depth text inside rest letters at h = record {
    tree = grouped h.tree;
    formed = λ power. h.formed;
    shallow = λ power. let less = h.shallow in omega arith;
    onward = λ power tokens more. (
      inside,
      mark_at open_round 40 text inside at (open_first inside),
      subst (λ ts. TokensOf inside ts) (sym (append_assoc (word_tokens h.tree) (close_round ∷ power_tokens power) tokens)) (h.onward (power_tokens power ++ tokens) more),
    );
    means = λ power. ap (λ r. and_then r (power_meaning names inverses power)) h.means;
  }

  pub group_front : (depth : ℕ) (text rest behind letters : List ℕ) → FactorsFront names inverses depth text rest letters → after_gap rest ≡ 41 ∷ behind
      → GroupFront names inverses (suc depth) text behind letters
  group_front depth text rest behind letters h at = record {
    tree = h.tree;
    formed = h.formed;
    shallow = let most = h.shallow in omega arith;
    onward = λ tokens more. h.onward (close_round ∷ tokens) (behind, mark_at close_round 41 rest behind at (close_first behind), more);
    means = h.means;
  }

  factor_front : (depth : ℕ) (text behind rest base letters : List ℕ) → BaseFront names inverses depth text behind base → PowerFront names inverses behind rest base letters
      → FactorFront names inverses depth text rest letters
  factor_front depth text behind rest base letters b p = record {
    tree = b.tree p.power;
    formed = b.formed p.power;
    shallow = b.shallow p.power;
    onward = λ tokens more. b.onward p.power tokens (p.onward tokens more);
    means = b.means p.power ∙ p.means;
  }

  pub with_power : (depth : ℕ) (text behind rest old middle new : List ℕ) → Adds (BaseFront names inverses depth text behind) old middle
      → Adds (PowerFront names inverses behind rest (drop (length old) middle)) (take (length old) middle) new → Adds (FactorFront names inverses depth text rest) old new
  with_power depth text behind rest old middle new base power =
      let front : take (length old) middle ≡ old = ap (λ w. take (length old) w) base.grown ∙ take_at old base.letters (length old) refl in
      let end : drop (length old) middle ≡ base.letters = ap (λ w. drop (length old) w) base.grown ∙ drop_at old base.letters (length old) refl in
      record {
        letters = power.letters;
        is_read = factor_front depth text behind rest base.letters power.letters base.is_read (subst (λ w. PowerFront names inverses behind rest w power.letters) end power.is_read);
        grown = power.grown ∙ ap (λ w. w ++ power.letters) front;
      }

  -- ---- factors joined by `*`

  -- what others behind the letters so far make of the whole
  pub record Leads (depth : ℕ) (text rest letters : List ℕ) (others : Factors) : Type 0 where
    pub whole : Factors
    pub formed : IsWord whole
    pub shallow : word_nesting whole ≤ depth
    pub onward : (tokens : List Token) → TokensOf rest (word_tokens others ++ tokens) → TokensOf text (word_tokens whole ++ tokens)
    pub means : product_meaning names inverses [] whole ≡ product_meaning names inverses letters others

  -- factors, each with `*` behind it, were read of the text
  abbrev pub Going : ℕ → List ℕ → List ℕ → List ℕ → Type 0
  Going depth text rest letters = (others : Factors) → IsWord others → word_nesting others ≤ depth → Leads depth text rest letters others

  pub going_none : (depth : ℕ) (text old : List ℕ) → Adds (Going depth text text) old old
  going_none depth text old = record {
    letters = [];
    is_read = λ others formed shallow. record { whole = others; formed = formed; shallow = shallow; onward = λ tokens h. h; means = refl };
    grown = sym (append-nil old);
  }

  trees : (others : Factors) → IsWord others → AreFactorTrees others
  trees no_factors h = absurd h
  trees (factor next others) h = h

  starred : (others : Factors) → IsWord others → more_factors others ≡ star ∷ word_tokens others
  starred no_factors h = absurd h
  starred (factor next others) h = refl

  step : (letters more : List ℕ) (tree : Factor) (others : Factors) → factor_meaning names inverses tree ≡ Ok more → length letters + length more ≤ most_letters
      → product_meaning names inverses letters (factor tree others) ≡ product_meaning names inverses (letters ++ more) others
  step letters more tree others means few =
      ap (λ r. and_then (and_then r (product letters)) (λ w. product_meaning names inverses w others)) means
      ∙ ap (λ r. and_then r (λ w. product_meaning names inverses w others)) (product_fits letters more few)

  tokens_more : (first others : List Token) (tokens : List Token) → first ++ (star ∷ (others ++ tokens)) ≡ (first ++ star ∷ others) ++ tokens
  tokens_more first others tokens = sym (append_assoc first (star ∷ others) tokens)

  going_on : (depth : ℕ) (text rest behind next letters more : List ℕ) → Going depth text rest letters → FactorFront names inverses depth rest behind more
      → length letters + length more ≤ most_letters → after_gap behind ≡ 42 ∷ next → Going depth text next (letters ++ more)
  going_on depth text rest behind next letters more going f few at others formed shallow =
      let low = f.shallow in
      let lead = going (factor f.tree others) (f.formed, trees others formed) (omega arith) in
      record {
        whole = lead.whole;
        formed = lead.formed;
        shallow = lead.shallow;
        onward = λ tokens h.
            let read : TokensOf rest (factor_tokens f.tree ++ (star ∷ (word_tokens others ++ tokens))) =
            f.onward (star ∷ (word_tokens others ++ tokens)) (next, mark_at star 42 behind next at (star_first next), h) in
            lead.onward tokens (subst (λ ts. TokensOf rest ts) (tokens_more (factor_tokens f.tree) (word_tokens others) tokens ∙ ap (λ ts. (factor_tokens f.tree ++ ts) ++ tokens) (sym (starred others formed))) read);
        means = lead.means ∙ step letters more f.tree others f.means few;
      }

  ends : (depth : ℕ) (text rest behind letters more : List ℕ) → Going depth text rest letters → FactorFront names inverses depth rest behind more
      → length letters + length more ≤ most_letters → FactorsFront names inverses depth text behind (letters ++ more)
  ends depth text rest behind letters more going f few =
      let low = f.shallow in
      let lead = going (factor f.tree no_factors) (f.formed, tt) (omega arith) in
      record {
        tree = lead.whole;
        formed = lead.formed;
        shallow = lead.shallow;
        onward = λ tokens h. lead.onward tokens (subst (λ ts. TokensOf rest (ts ++ tokens)) (sym (append-nil (factor_tokens f.tree))) (f.onward tokens h));
        means = lead.means ∙ step letters more f.tree no_factors f.means few;
      }

  module _ (depth : ℕ) (text rest behind old middle new : List ℕ) (going : Adds (Going depth text rest) old middle) (read : Adds (FactorFront names inverses depth rest behind) middle new) (few : length new ≤ most_letters) where
    both : new ≡ old ++ (going.letters ++ read.letters)
    both = read.grown ∙ ap (λ w. w ++ read.letters) going.grown ∙ append_assoc old going.letters read.letters

    fits : length going.letters + length read.letters ≤ most_letters
    fits = let whole = ap length both in omega (arith, whole, few, length-append old (going.letters ++ read.letters), length-append going.letters read.letters)

    pub going_more : (next : List ℕ) → after_gap behind ≡ 42 ∷ next → Adds (Going depth text next) old new
    going_more next at = record {
      letters = going.letters ++ read.letters;
      is_read = going_on depth text rest behind next going.letters read.letters going.is_read read.is_read fits at;
      grown = both;
    }

    pub going_ends : Adds (FactorsFront names inverses depth text behind) old new
    going_ends = record {
      letters = going.letters ++ read.letters;
      is_read = ends depth text rest behind going.letters read.letters going.is_read read.is_read fits;
      grown = both;
    }

  -- ---- the whole

  pub meaning : (bytes rest w : List ℕ) → Adds (FactorsFront names inverses deepest bytes rest) [] w → after_gap rest ≡ [] → Meaning bytes names inverses (Ok w)
  meaning bytes rest w h at =
      let f = h.is_read in
      record {
        factors = f.tree;
        formed = record {
          tokens = word_tokens f.tree;
          spelled = subst (λ ts. TokensOf bytes ts) (append-nil (word_tokens f.tree)) (f.onward [] at);
          formed = (f.formed, refl);
        };
        shallow = f.shallow;
        means = f.means ∙ ap Ok (sym h.grown);
      }

-- what is read of a name is read of a factor
pub adds_as : (P Q : List ℕ → Type 0) (old new : List ℕ) → ((letters : List ℕ) → P letters → Q letters) → Adds P old new → Adds Q old new
adds_as P Q old new f h = record { letters = h.letters; is_read = f h.letters h.is_read; grown = h.grown }

pub if_some : {A : Type 0} (found : Option A) (P Q : A → Type 0) → ((x : A) → P x → Q x) → IfSome found P → IfSome found Q
if_some None P Q f h = tt
if_some (Some x) P Q f h = f x h
