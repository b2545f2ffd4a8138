-- The log of a completion is read again as that log: its words have readable letters, and its numbers fit.
use Rattle.std.proofs.Common.{◌≡◌, ◌∙◌, ℕ, zero, suc, ◌^◌, ◌<◌, ◌≤◌, List, [], ◌∷◌, ◌++◌, length, take, refl, sym, subst, arith, option_to_list, Option, None, Some, length-append}
use Rattle.std.specs.Prelude.{slice_get, All, IfSome}
use Rattle.std.proofs.lemmas.List.{length-map, length-take}
use Rattle.std.proofs.lemmas.List.Elements.{All-cons, All-nil}
use Rattle.std.proofs.lemmas.Option.{slice_get-map, slice_get_within}
use Rattle.kb_word.specs.Names.{AreApart}
use Rattle.kb_word.specs.Words.{Pair, OneOf}
use Rattle.kb_word.specs.WordOrders.{Below}
use Rattle.kb_word.specs.Presentations.{PresentationParts}
use Rattle.kb_word.specs.Relations.{relations_of}
use Rattle.kb_machine.specs.Lines.{numbered, rule_of, rules_of, IsPairOf}
use Rattle.kb_machine.specs.Derivations.{Derives, Any}
use Rattle.kb_machine.specs.Justified.{ComesFromPair, ShortensRule, FollowsBy, IsJustified}
use Rattle.kb_machine.specs.Letters.{AreOver}
use Rattle.kb_machine.specs.declared.line.Line.{Line}
use Rattle.kb_machine.specs.declared.line.LogStep.{LogStep}
use Rattle.kb_machine.specs.declared.origin.Origin.{Origin}
use Rattle.kb_machine.specs.declared.origin.Origin.TheVariants.{Relation, Overlap, Killed, Shortened}
use Rattle.kb_machine.proofs.Letters.{justified_over}
use Rattle.kb_machine.proofs.Logs.{slice_get_take, line_of_rule}
use Rattle.kb_machine.proofs.Numbers.{numbered_one, slice_get_front, slice_get_last}
use Rattle.kb_machine.proofs.Relations.{relations_over}
use Rattle.kb_proof.specs.Completions.{AreShort, AreShortParts, IsOfCompletion, IsReadAgain}
use Rattle.kb_proof.specs.Printable.{AreReadableNames, FitsOrigin, FitsStep, IsPrintableLine, IsPrintable, IsShortening}
use Rattle.kb_proof.specs.Printed.{header, text_of_body, text_of_log}
use Rattle.kb_proof.specs.declared.log.Log.{Log}
use Rattle.kb_proof.specs.declared.log.Version.{Version}
use Rattle.kb_proof.specs.declared.log.Version.TheVariants.{Two}
use Rattle.kb_proof.proofs.FaultLemmas.{log_right}
use Rattle.kb_proof.proofs.SameLemmas.{logs_same}
use Rattle.kb_proof.proofs.TextLengths.{IsSmall, body_small, body_few}

-- ---- numbers

-- 2^25, which bounds what a text of 2^24 bytes may have of anything
abbrev most : ℕ
most = 33554432

-- there are few rules, and their sides are short
record AreFew (rules : List Pair) : Type 0 where
  few : length rules ≤ most
  sides : (rule : Pair) → OneOf rules rule → (length rule.0 ≤ most) × (length rule.1 ≤ most)

number_within : (rules : List Pair) (k : ℕ) (rule : Pair) → numbered rules k ≡ Some rule → k ≤ length rules
number_within rules zero rule is = omega arith
number_within rules (suc index) rule is = let within = slice_get_within rules index rule is in omega (arith, within)

-- the steps of a derivation by such rules fit
steps_fit : (rules : List Pair) (u v : List ℕ) (steps : List LogStep) → AreFew rules → Derives Any rules u steps v → All FitsStep steps
steps_fit rules u v [] are leads = All-nil FitsStep
steps_fit rules u v (step ∷ rest) are leads =
    let first = leads.1 in
    let line : step.line < 2 ^ 32 =
    omega (arith, are.few, number_within rules step.line first.rule first.is_rule) in
    let fits : FitsStep step = record { place = step.fits; line = line } in
    All-cons FitsStep step rest fits (steps_fit rules leads.0 v rest are leads.2)

-- the numbers of a line fit
record Fits (origin : Origin) (line : Line) : Type 0 where
  numbers : FitsOrigin origin
  first : All FitsStep line.first_steps.items
  second : All FitsStep line.second_steps.items
  shortened : IsShortening origin → line.second_steps.items ≡ []

-- those of an origin
origin_fits : (relations rules : List Pair) (origin : Origin) (pair : Pair) → AreShort relations → AreFew rules
    → IsPairOf relations rules origin pair → FitsOrigin origin
origin_fits relations rules (Relation k) pair given are is =
    omega (arith, given.few, number_within relations k pair is)
origin_fits relations rules (Overlap i j place) pair given are is =
    let one = are.sides is.first (numbered_one rules i is.first is.overlap.is_first) in
    let left = one.0 in
    let within = is.overlap.overlaps.within in (
      omega (arith, are.few, number_within rules i is.first is.overlap.is_first),
      omega (arith, are.few, number_within rules j is.second is.overlap.is_second),
      omega (arith, left, within),
    )
origin_fits relations rules (Killed k) pair given are is = omega (arith, are.few, number_within rules k pair is)
origin_fits relations rules (Shortened k) pair given are is = omega (arith, are.few, number_within rules k pair is)

comes_fit : (relations earlier : List Pair) (line : Line) → AreShort relations → AreFew earlier
    → ComesFromPair relations earlier line → (IsShortening line.origin → line.second_steps.items ≡ []) → Fits line.origin line
comes_fit relations earlier line given are comes shortened =
    let pair = comes.pair in
    let both = comes.derived in
    record {
      numbers = origin_fits relations earlier line.origin pair given are comes.is_pair;
      first = steps_fit earlier pair.0 both.one line.first_steps.items are both.first;
      second = steps_fit earlier pair.1 both.other line.second_steps.items are both.second;
      shortened = shortened;
    }

shortens_fit : (earlier : List Pair) (k : ℕ) (line : Line) → AreFew earlier
    → ShortensRule earlier k line → Fits (Shortened k) line
shortens_fit earlier k line are shortens =
    let rule = shortens.rule in
    record {
      numbers = omega (arith, are.few, number_within earlier k rule shortens.is_rule);
      first = steps_fit earlier rule.1 line.right line.first_steps.items are shortens.right;
      second = subst (All FitsStep) (sym shortens.no_second) (All-nil FitsStep);
      shortened = λ is. shortens.no_second;
    }

follows_fit : (relations earlier : List Pair) (origin : Origin) (line : Line) → line.origin ≡ origin → AreShort relations
    → AreFew earlier → FollowsBy relations earlier origin line → Fits origin line
follows_fit relations earlier (Relation k) line is given are comes =
    subst (λ o. Fits o line) is (comes_fit relations earlier line given are comes
    (λ shortens. absurd (subst IsShortening is shortens)))
follows_fit relations earlier (Overlap i j place) line is given are comes =
    subst (λ o. Fits o line) is (comes_fit relations earlier line given are comes
    (λ shortens. absurd (subst IsShortening is shortens)))
follows_fit relations earlier (Killed k) line is given are comes =
    subst (λ o. Fits o line) is (comes_fit relations earlier line given are comes.0
    (λ shortens. absurd (subst IsShortening is shortens)))
follows_fit relations earlier (Shortened k) line is given are shortens = shortens_fit earlier k line are shortens

-- ---- lines

earlier_few : (lines : List Line) (index : ℕ) → length lines ≤ most
    → ((place : ℕ) (line : Line) → slice_get lines place ≡ Some line → IsSmall most line) → AreFew (take index (rules_of lines))
earlier_few lines index few small = record {
  few = omega (arith, few, length-take index (rules_of lines), length-map lines rule_of);
  sides =
      λ rule one.
      let first = slice_get_take (rules_of lines) index one.0 rule one.1 in
      let at = line_of_rule lines one.0 rule first.1 in
      let bounds = small one.0 at.line at.is_line in
      subst (λ (pair : Pair). (length pair.0 ≤ most) × (length pair.1 ≤ most)) (sym at.is) (bounds.left, bounds.right);
}

-- each line of a justified log that is small can be read again
line_printable : {below : List ℕ → List ℕ → Type 0} (names : List (List ℕ)) (relations : List Pair) (lines : List Line)
    → AreOver (length names) relations → AreShort relations → IsJustified below relations lines → length lines ≤ most
    → ((place : ℕ) (line : Line) → slice_get lines place ≡ Some line → IsSmall most line)
    → (index : ℕ) (line : Line) → slice_get lines index ≡ Some line → IsPrintableLine Two names line
line_printable names relations lines over given justified few small index line at =
    let earlier = take index (rules_of lines) in
    let fits = follows_fit relations earlier line.origin line refl given (earlier_few lines index few small)
    (justified.follows index line at) in
    let here : slice_get (rules_of lines) index ≡ Some (rule_of line) = slice_get-map rule_of lines index ∙ cc at in
    let letters = justified_over (length names) relations lines over justified (rule_of line) (index, here) in
    record {
      fits = record {
        origin = fits.numbers;
        left = letters.0;
        right = letters.1;
        first_steps = fits.first;
        second_steps = fits.second;
      };
      printed_steps = fits.shortened;
    }

all_at : {X : Type 0} (P : X → Type 0) (xs : List X) → ((index : ℕ) (x : X) → slice_get xs index ≡ Some x → P x) → All P xs
all_at P [] holds = All-nil P
all_at P (x ∷ xs) holds = All-cons P x xs (holds 0 x refl) (all_at P xs (λ index y at. holds (suc index) y at))

-- what holds of each place of the lines and the one that waits holds of the one that waits
waits_last : {X : Type 0} (P : X → Type 0) (xs : List X) (last : Option X)
    → ((index : ℕ) (x : X) → slice_get (xs ++ option_to_list last) index ≡ Some x → P x) → IfSome last P
waits_last P xs None holds = tt
waits_last P xs (Some x) holds = holds (length xs) x (slice_get_last xs x)

-- ---- logs

-- the lines and the pair that waits can be read again
pub record ArePrintable (names : List (List ℕ)) (lines : List Line) (waiting : Option Line) : Type 0 where
  pub each : All (IsPrintableLine Two names) lines
  pub last : IfSome waiting (IsPrintableLine Two names)
  pub few : length lines < 2 ^ 64

-- those of a completion can, where their text is short
pub completion_printable : (parts : PresentationParts) (lines : List Line) (waiting : Option Line) → AreShortParts parts
    → IsJustified (Below parts.order) (relations_of parts.inverses parts.equations) (lines ++ option_to_list waiting)
    → length (header Two ++ text_of_body Two parts.names lines waiting) ≤ 2 ^ 24 → ArePrintable parts.names lines waiting
completion_printable parts lines waiting short justified fits =
    let names = parts.names in
    let body : length (text_of_body Two names lines waiting) ≤ 2 ^ 24 =
    omega (arith, fits, length-append (header Two) (text_of_body Two names lines waiting)) in
    let bound : length (text_of_body Two names lines waiting) ≤ most = omega (arith, body) in
    let fewer : length (lines ++ option_to_list waiting) ≤ most =
    omega (arith, body_few names lines waiting (2 ^ 24) body) in
    let printable = line_printable names (relations_of parts.inverses parts.equations) (lines ++ option_to_list waiting)
    (relations_over short.presents) short.short justified fewer (body_small names lines waiting most bound) in
    record {
      each =
          all_at (IsPrintableLine Two names) lines
          (λ index line at. printable index line (slice_get_front lines (option_to_list waiting) index line at));
      last = waits_last (IsPrintableLine Two names) lines waiting printable;
      few = omega (arith, fewer, length-append lines (option_to_list waiting));
    }

log_printable : (parts : PresentationParts) (log : Log) → AreShortParts parts → IsOfCompletion parts log
    → length (text_of_log parts.names log) ≤ 2 ^ 24 → IsPrintable parts.names log
log_printable parts log short of fits =
    let names = parts.names in
    let two = of.with_derivations in
    let body : Version → Type 0 = λ v. length (header v ++ text_of_body v names log.lines.items log.waiting) ≤ 2 ^ 24 in
    let are = completion_printable parts log.lines.items log.waiting short of.justified (subst body two fits) in
    record {
      lines = subst (λ v. All (IsPrintableLine v names) log.lines.items) (sym two) are.each;
      few = are.few;
      waiting = subst (λ v. IfSome log.waiting (IsPrintableLine v names)) (sym two) are.last;
    }

-- the log of a completion is read again as that log
pub completion_read_again : (parts : PresentationParts) (log : Log) → AreReadableNames parts.names → AreApart parts.names
    → AreShortParts parts → IsOfCompletion parts log → length (text_of_log parts.names log) ≤ 2 ^ 24
    → IsReadAgain parts.names log
completion_read_again parts log readable apart short of fits =
    let printable = log_printable parts log short of fits in
    record {
      printable = printable;
      same = λ other also same. logs_same parts.names log other readable apart printable also same;
      no_fault = λ error fault. log_right parts.names log error readable printable fault;
    }
