-- The pass over a plain product: what is read, and what is still to come.
use Rattle.std.proofs.Common.{◌≡◌, ℕ, ◌-◌, ◌<◌, ◌≤◌, max, take, drop, get_or, length-append, List, [], ◌∷◌, ◌++◌, length, Option, None, Some, Ok, Err, inl, inr, refl, sym, ap, ◌∙◌, subst, arith}
use Rattle.std.specs.Prelude.{Result}
use Rattle.std.proofs.lemmas.List.{take_rest}
use Rattle.kb_lexing.proofs.Lexings.{gap_front}
use Rattle.kb_lexing.specs.Token.{Token, name, star, caret, open_round, close_round}
use Rattle.kb_lexing.specs.Spelling.{Spells, FirstToken, TokensOf, after_gap}
use Rattle.kb_lexing.proofs.FirstTokens.{IsSingle, Kind, word, digits, negative, quoted, assigns, ranges, single, first_from}
use Rattle.kb_record.specs.Tree.{Factors, named, no_factors, factor}
use Rattle.kb_record.specs.Grammar.{WordOf, IsWord, AreFactorTrees, word_tokens, more_factors}
use Rattle.kb_record.specs.Nesting.{deepest, word_nesting}
use Rattle.kb_record.specs.Faults.{Meaning, HasWordFault, Evaluates}
use Rattle.kb_record.specs.Meaning.{WordFault, unknown_generator, no_inverse, too_long, and_then, product_meaning, word_meaning}
use Rattle.kb_record.specs.declared.error.WordError.{WordError}
use Rattle.kb_record.specs.declared.error.WordError.TheVariants.{Syntax, TooDeep, UnknownGenerator, NoInverse, WordTooLong, Memory}
use Rattle.kb_wordreader.specs.Products.{starred, before, times_name, Takes, SoFar, Passed}
use Rattle.kb_wordreader.proofs.ProductLemmas.{product_step, first_fault}

-- a mark of one byte is never longer
alone : (b : ℕ) (other : List ℕ) → IsSingle b → Kind b other → length other ≤ 0
alone b other h (word at goes) = absurd (omega arith)
alone b other h (digits at each few) = absurd (omega arith)
alone b other h (negative at each some few) = absurd (omega arith)
alone b other h (quoted text at whole each) = absurd (omega arith)
alone b other h (assigns at whole) = absurd (omega arith)
alone b other h (ranges at whole) = absurd (omega arith)
alone b other h (single at whole) = omega (arith, ap length whole)

mark_first : (token : Token) (b : ℕ) (rest : List ℕ) → IsSingle b → Spells token (b ∷ []) → FirstToken (b ∷ rest) token rest
mark_first token b rest at spelled = first_from token b [] rest rest spelled refl (λ other back kind e. alone b other at kind)

pub star_first : (rest : List ℕ) → FirstToken (42 ∷ rest) star rest
star_first rest = mark_first star 42 rest (inr (inr (inr (inr (inr (inr (inl refl))))))) refl

pub caret_first : (rest : List ℕ) → FirstToken (94 ∷ rest) caret rest
caret_first rest = mark_first caret 94 rest (inr (inr (inr (inr (inr (inr (inr refl))))))) refl

pub open_first : (rest : List ℕ) → FirstToken (40 ∷ rest) open_round rest
open_first rest = mark_first open_round 40 rest (inl refl) refl

pub close_first : (rest : List ℕ) → FirstToken (41 ∷ rest) close_round rest
close_first rest = mark_first close_round 41 rest (inr (inl refl)) refl

starred_more : (texts : List (List ℕ)) (text : List ℕ) (tokens : List Token) → starred texts ++ (name text ∷ star ∷ tokens) ≡ starred (texts ++ text ∷ []) ++ tokens
starred_more [] text tokens = refl
starred_more (first ∷ texts) text tokens = ap (λ ts. name first ∷ star ∷ ts) (starred_more texts text tokens)

before_more : (texts : List (List ℕ)) (text : List ℕ) (others : Factors) → before texts (factor (named text None) others) ≡ before (texts ++ text ∷ []) others
before_more [] text others = refl
before_more (first ∷ texts) text others = ap (factor (named first None)) (before_more texts text others)

-- the tree of names joined by `*`
abbrev pub tree : List (List ℕ) → List ℕ → Factors
tree texts last = before texts (factor (named last None) no_factors)

star_before : (texts : List (List ℕ)) (last : List ℕ) → more_factors (tree texts last) ≡ star ∷ word_tokens (tree texts last)
star_before [] last = refl
star_before (first ∷ texts) last = refl

tree_tokens : (texts : List (List ℕ)) (last : List ℕ) → word_tokens (tree texts last) ≡ starred texts ++ name last ∷ []
tree_tokens [] last = refl
tree_tokens (first ∷ texts) last = ap (λ ts. name first ∷ ts) (star_before texts last ∙ ap (λ ts. star ∷ ts) (tree_tokens texts last))

trees : (texts : List (List ℕ)) (last : List ℕ) → AreFactorTrees (tree texts last)
trees [] last = (tt, tt)
trees (first ∷ texts) last = (tt, trees texts last)

is_word : (texts : List (List ℕ)) (last : List ℕ) → IsWord (tree texts last)
is_word [] last = (tt, tt)
is_word (first ∷ texts) last = (tt, trees texts last)

flat : (texts : List (List ℕ)) (last : List ℕ) → word_nesting (tree texts last) ≡ 0
flat [] last = refl
flat (first ∷ texts) last = ap (max 0) (flat texts last)

word_of_names : (bytes : List ℕ) (texts : List (List ℕ)) (last : List ℕ) → TokensOf bytes (starred texts ++ name last ∷ []) → WordOf bytes (tree texts last)
word_of_names bytes texts last h = record { tokens = starred texts ++ name last ∷ []; spelled = h; formed = (is_word texts last, sym (tree_tokens texts last)) }

shallow : (texts : List (List ℕ)) (last : List ℕ) → word_nesting (tree texts last) ≤ deepest
shallow texts last = let none = flat texts last in omega arith

pub passed_none : (names : List (List ℕ)) (bytes : List ℕ) → Passed names bytes bytes [] None
passed_none names bytes = record { texts = []; onward = λ tokens h. h; means = λ inverses others. refl }

evaluates_as : (r s : Result (List ℕ) WordFault) (fault : WordError) → r ≡ s → Evaluates s (Err fault) → Evaluates r (Err fault)
evaluates_as r s fault e h = subst (λ x. Evaluates x (Err fault)) (sym e) h

-- one more name
taken : (names : List (List ℕ)) (inverses : List (Option ℕ)) (so_far text w : List ℕ) (others : Factors) (whole : Result (List ℕ) WordFault) (old new : Option WordError)
    → SoFar names inverses so_far (factor (named text None) others) whole old → Takes names so_far text old w new → SoFar names inverses w others whole new
taken names inverses so_far text w others whole None None h t =
    h ∙ product_step names inverses so_far text others ∙ ap (λ r. and_then r (λ v. product_meaning names inverses v others)) t
taken names inverses so_far text w others whole None (Some fault) h t =
    evaluates_as whole _ fault (h ∙ product_step names inverses so_far text others) (first_fault (times_name names so_far text) (λ v. product_meaning names inverses v others) fault t)
taken names inverses so_far text w others whole (Some fault) new h t = subst (λ f. SoFar names inverses w others whole f) (sym t) h

module _ (names : List (List ℕ)) (bytes rest behind so_far text w : List ℕ) (old new : Option WordError) (passed : Passed names bytes rest so_far old)
    (first : FirstToken (after_gap rest) (name text) behind) (takes : Takes names so_far text old w new) where
  means_more : (inverses : List (Option ℕ)) (others : Factors) → SoFar names inverses w others (product_meaning names inverses [] (before passed.texts (factor (named text None) others))) new
  means_more inverses others = taken names inverses so_far text w others _ old new (passed.means inverses (factor (named text None) others)) takes

  pub passed_more : (next : List ℕ) → after_gap behind ≡ 42 ∷ next → Passed names bytes next w new
  passed_more next at = record {
    texts = passed.texts ++ text ∷ [];
    onward = λ tokens h.
        let star_at : FirstToken (after_gap behind) star next = subst (λ x. FirstToken x star next) (sym at) (star_first next) in
        subst (λ ts. TokensOf bytes ts) (starred_more passed.texts text tokens) (passed.onward (name text ∷ star ∷ tokens) (behind, first, (next, star_at, h)));
    means = λ inverses others.
        subst (λ fs. SoFar names inverses w others (product_meaning names inverses [] fs) new) (before_more passed.texts text others) (means_more inverses others);
  }

  ends : after_gap behind ≡ [] → WordOf bytes (tree passed.texts text)
  ends at = word_of_names bytes passed.texts text (passed.onward (name text ∷ []) (behind, first, at))

  pub passed_word : after_gap behind ≡ [] → new ≡ None → (inverses : List (Option ℕ)) → Meaning bytes names inverses (Ok w)
  passed_word at none inverses = record {
    factors = tree passed.texts text;
    formed = ends at;
    shallow = shallow passed.texts text;
    means = subst (λ f. SoFar names inverses w no_factors (word_meaning names inverses (tree passed.texts text)) f) none (means_more inverses no_factors);
  }

  meant : after_gap behind ≡ [] → (inverses : List (Option ℕ)) (fault : WordFault) → word_meaning names inverses (tree passed.texts text) ≡ Err fault → Meaning bytes names inverses (Err fault)
  meant at inverses fault is = record { factors = tree passed.texts text; formed = ends at; shallow = shallow passed.texts text; means = is }

  faulty : after_gap behind ≡ [] → (inverses : List (Option ℕ)) (fault : WordError) → Evaluates (word_meaning names inverses (tree passed.texts text)) (Err fault) → HasWordFault bytes names inverses fault
  faulty at inverses (UnknownGenerator text) h = meant at inverses (unknown_generator text) h
  faulty at inverses (NoInverse text) h = meant at inverses (no_inverse text) h
  faulty at inverses WordTooLong h = meant at inverses too_long h
  faulty at inverses Memory h = tt
  faulty at inverses (Syntax place) h = absurd h
  faulty at inverses (TooDeep place) h = absurd h

  pub passed_fault : after_gap behind ≡ [] → (fault : WordError) → new ≡ Some fault → (inverses : List (Option ℕ)) → HasWordFault bytes names inverses fault
  passed_fault at fault is inverses =
      faulty at inverses fault (subst (λ f. SoFar names inverses w no_factors (word_meaning names inverses (tree passed.texts text)) f) is (means_more inverses no_factors))

-- ---- one turn

pub no_bytes : (bytes : List ℕ) → length bytes < 1 → bytes ≡ []
no_bytes [] few = refl
no_bytes (b ∷ bytes) few = absurd (omega arith)

-- the byte with which a text begins, and what stands behind it
pub mark_split : (mark : ℕ) (bytes : List ℕ) → 1 ≤ length bytes → get_or bytes 0 0 ≡ mark → bytes ≡ mark ∷ take (length bytes - 1) (drop 1 bytes)
mark_split mark [] some e = absurd (omega arith)
mark_split mark (b ∷ bytes) some e = rw (take_rest (b ∷ bytes) 1) (ap (λ x. x ∷ bytes) e)

pub gap_length : (text : List ℕ) → length (after_gap text) ≤ length text
gap_length text =
    let gap = gap_front text in
    let whole = ap length gap.whole in
    omega (arith, whole, length-append gap.front (after_gap text))
