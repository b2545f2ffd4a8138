-- The words that the word acceptor of a completed presentation accepts up to a length are the ball.
use Rattle.std.proofs.Common.{◌≡◌, ◌<◌, ◌≤◌, inl, inr, ℕ, List, ◌++◌, length, refl, sym, subst, arith}
use Rattle.std.proofs.lemmas.Bool.{cases_lt}
use Rattle.std.proofs.lemmas.List.Elements.{All-append}
use Rattle.kb_word.specs.Words.{Pair, OneOf, shorter}
use Rattle.kb_word.specs.Congruence.{Congruent, Touches}
use Rattle.kb_word.specs.Presentations.{PresentationParts, parts_of}
use Rattle.kb_word.specs.Relations.{IsOver, IsPresentation}
use Rattle.kb_word.specs.Rewriting.{NormalForm}
use Rattle.kb_word.specs.WordOrders.{Below}
use Rattle.kb_word.specs.WordOrderLaws.{word_orders}
use Rattle.kb_word.specs.declared.presentation.Presentation.{Presentation}
use Rattle.kb_word.specs.declared.word_order.WordOrder.{WordOrder}
use Rattle.kb_word.specs.declared.word_order.WordOrder.TheVariants.{ShortLex}
use Rattle.kb_word.proofs.PathLemmas.{path_keeps, congruent_reflexive, congruent_transitive}
use Rattle.kb_rules.proofs.Exists.{normal_form_exists}
use Rattle.kb_rules.proofs.Lists.{All-front, All-rest}
use Rattle.kb_reduced.specs.Reduced.{IsCompleteSystem}
use Rattle.kb_machine.proofs.Relations.{relations_over}
use Rattle.kb_fsa.specs.Language.{Automaton}
use Rattle.kb_system.specs.Completed.{IsCompletion, IsLeastIn, below, relations}
use Rattle.kb_task.specs.declared.status.Status.{Status}
use Rattle.kb_listing.specs.Asked.{IsAsked, AreFirstAsked, AreAllAsked, IsFrontOfWords, WordsArePrinted}
use Rattle.kb_listing.specs.Asked as asked
use Rattle.kb_cmd_elements.specs.Balls.{IsInBall, AreFirstOfBall, IsBall, IsFrontOfBall, BallIsPrinted, printed, failed, no_memory}

-- ---- letters

-- a word stays one over the generators where one side of a relation is put for the other
replaced_over : (n : ℕ) (before left right after u v : List ℕ) → u ≡ before ++ left ++ after → v ≡ before ++ right ++ after → IsOver n right
    → IsOver n u → IsOver n v
replaced_over n before left right after u v from to over whole =
    let P : ℕ → Type 0 = λ x. (0 < x) × (x ≤ n) in
    let Q : List ℕ → Type 0 = λ w. IsOver n w in
    let front = All-front P (before ++ left) u after from whole in
    let begun = All-front P before (before ++ left) left refl front in
    let rest = All-rest P after u (before ++ left) from whole in
    subst Q (sym to) (All-append P (before ++ right) after (All-append P before right begun over) rest)

module _ (n : ℕ) (pairs : List Pair) (over : (pair : Pair) → OneOf pairs pair → IsOver n pair.0 × IsOver n pair.1) where
  touched_over : (u v : List ℕ) → Touches (OneOf pairs) u v → IsOver n u → IsOver n v
  touched_over u v (inl is) whole =
      replaced_over n is.before is.pair.0 is.pair.1 is.after u v is.from is.to (over is.pair is.is_allowed).1 whole
  touched_over u v (inr is) whole =
      replaced_over n is.before is.pair.1 is.pair.0 is.after u v is.to is.from (over is.pair is.is_allowed).0 whole

  -- what is congruent to a word over the generators is one
  congruent_over : (u v : List ℕ) → Congruent (OneOf pairs) u v → IsOver n u → IsOver n v
  congruent_over u v congruent whole = path_keeps (λ (w : List ℕ). IsOver n w) touched_over congruent whole

-- ---- the ball

module _ (parts : PresentationParts) (presents : IsPresentation (length parts.names) parts.order parts.names parts.inverses parts.equations)
    (rules : List Pair) (acceptor : Automaton) (completion : IsCompletion parts rules acceptor) (radius : ℕ)
    (complete : IsCompleteSystem (below parts) (relations parts) rules)
    (normal_least : (w m : List ℕ) → NormalForm rules w m → IsLeastIn parts w m) where
  inside_of : (word : List ℕ) → IsAsked acceptor 0 radius word → IsInBall parts radius word
  inside_of word is =
      let has = (completion.acceptor.language word).0 is.accepted in record { over = has.0; least = has.1; short = is.most_length }

  asked_of : (word : List ℕ) → IsInBall parts radius word → IsAsked acceptor 0 radius word
  asked_of word is = record {
    accepted = (completion.acceptor.language word).1 (is.over, is.least);
    least_length = omega arith;
    most_length = is.short;
  }

  first_of : (words : List (List ℕ)) → AreFirstAsked acceptor 0 radius words → AreFirstOfBall parts radius words
  first_of words first = record {
    ascend = first.ascend;
    inside = λ word here. inside_of word (first.asked word here);
    none_before = λ word other here is less. first.none_before word other here (asked_of other is) less;
  }

  front_of : (before after : List ℕ) → IsFrontOfWords parts.names acceptor 0 radius before after → IsFrontOfBall parts radius before after
  front_of before after front = record { words = front.words; first = first_of front.words front.first; front = front.front }

  -- a word has a least word
  least_word : (w : List ℕ) → (m : List ℕ) × IsLeastIn parts w m
  least_word w =
      let normal = normal_form_exists {below = below parts} (word_orders parts.order) rules complete.decreasing w in
      (normal.0, normal_least w normal.0 normal.1)

  module _ (shortlex : parts.order ≡ ShortLex) where
    -- a least word is no longer than any word congruent to it
    no_longer : (w m : List ℕ) → IsLeastIn parts w m → length m ≤ length w
    no_longer w m least = elim (cases_lt (length w) (length m)) [
      | inl longer ↦
          let B : WordOrder → Type 0 = λ order. Below order w m in
          absurd (least.least w (congruent_reflexive w) (subst B (sym shortlex) (shorter longer)))
      | inr within ↦ within
    ]

    least_inside : (w m : List ℕ) → IsOver (length parts.names) w → length w ≤ radius → IsLeastIn parts w m → IsInBall parts radius m
    least_inside w m over short least = record {
      over = congruent_over (length parts.names) (relations parts) (relations_over presents) w m least.congruent over;
      least = record {
        congruent = congruent_reflexive m;
        least = λ v congruent. least.least v (congruent_transitive least.congruent congruent);
      };
      short = omega (arith, no_longer w m least, short);
    }

    ball_of : (words : List (List ℕ)) → AreAllAsked acceptor 0 radius words → IsBall parts radius words
    ball_of words all = record {
      first = first_of words all.first;
      elements = λ w over short.
          let m = least_word w in
          (m.0, m.1, all.all m.0 (asked_of m.0 (least_inside w m.0 over short m.1)));
    }

    -- the words that were printed are the ball
    pub ball_printed : (before after : List ℕ) (status : Status) → WordsArePrinted parts.names acceptor 0 radius before after status
        → BallIsPrinted parts radius before after status
    ball_printed before after status (asked.printed {words = words} all is) = printed (ball_of words all) is
    ball_printed before after status (asked.failed front) = failed (front_of before after front)
    ball_printed before after status (asked.no_memory front) = no_memory (front_of before after front)

-- a presentation's parts are those of a presentation
pub parts_present : (presentation : Presentation) → IsPresentation (length (parts_of presentation).names) (parts_of presentation).order
    (parts_of presentation).names (parts_of presentation).inverses (parts_of presentation).equations
parts_present presentation =
    let P : ℕ → Type 0 = λ n. IsPresentation n presentation.order presentation.names presentation.inv presentation.eqs in
    subst P (sym presentation.is_presentation.one_name_each) presentation.is_presentation
