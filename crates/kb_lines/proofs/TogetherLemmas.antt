-- Answers to blocks of lines are added one after another.
use Rattle.std.proofs.Common.{◌≡◌, ℕ, suc, ◌+◌, ◌≤◌, List, [], ◌∷◌, ◌++◌, length, refl, sym, ◌∙◌, ap, subst, append_assoc, append-nil, arith, length-append}
use Rattle.std.specs.Prelude.{IsTrue}
use Rattle.std.specs.List.{AllByRecursion}
use Rattle.kb_io.specs.Bytes.{newline, AppendsPrefix}
use Rattle.kb_io.specs.States.{SinkState}
use Rattle.kb_word.specs.Presentations.{PresentationParts}
use Rattle.kb_record.specs.declared.error.WordError.{WordError}
use Rattle.kb_lines.specs.WordLines.{IsOneLine, ended, LinesGive, LineHasFault, AddsGiven}
use Rattle.kb_lines.specs.Progress.{PendingGoesOn, Advances, FrontIn, RefusesIn, StopsIn}
use Rattle.kb_lines.specs.Batches.{AreLines, joined, lines_in, BlockGives, BlockRefused, IsBlockAnswer, AreBlockAnswers}
use Rattle.kb_lines.specs.declared.progress.Progress.{Progress}
use Rattle.kb_lines.specs.declared.stop.Stop.{Stop}
use Rattle.kb_lines.specs.declared.together.BlockAnswer.{BlockAnswer}
use Rattle.kb_lines.specs.declared.together.BlockAnswer.TheVariants.{Given, Faulty}
use Rattle.kb_lines.proofs.BatchLemmas.{lines-fit, stops-more}
use Rattle.kb_lines.proofs.ProgressLemmas.{advances-start, advances-append, stops-append, pending-front}
use Rattle.kb_lines.proofs.UniqueLemmas.{one-cut}
use Rattle.kb_lines.proofs.LineLemmas.{all-append, ended-next, gives-next}

-- each block has the answer at its place
abbrev pub EachHas : PresentationParts → (List ℕ → List ℕ → Type 0) → List (List ℕ) → List BlockAnswer → Type 0
EachHas parts Answers [] [] = Unit {0}
EachHas parts Answers (block ∷ blocks) (answer ∷ answers) = IsBlockAnswer parts Answers block answer × EachHas parts Answers blocks answers
EachHas parts Answers _ _ = ⊥

-- the answers that are left are those to the blocks that are left, and the bytes before them were answered
pub record IsAdding (parts : PresentationParts) (Answers : List ℕ → List ℕ → Type 0) (blocks : List (List ℕ)) (answers : List BlockAnswer)
    (old now : Progress) (a b : SinkState) : Type 0 where
  pub left : List (List ℕ)
  pub each : AllByRecursion AreLines left
  pub own : EachHas parts Answers left answers
  pub before : List ℕ
  pub whole : joined blocks ≡ before ++ joined left
  pub advances : IsTrue a.told → Advances parts Answers before [] old now a b
  pub number : now.number + length (joined left) ≤ old.number + length (joined blocks)

-- the next of them is the answer to this block
pub record IsNext (parts : PresentationParts) (Answers : List ℕ → List ℕ → Type 0) (blocks : List (List ℕ)) (answer : BlockAnswer)
    (answers : List BlockAnswer) (old now : Progress) (a b : SinkState) : Type 0 where
  pub block : List ℕ
  pub are : AreLines block
  pub is : IsBlockAnswer parts Answers block answer
  pub left : List (List ℕ)
  pub each : AllByRecursion AreLines left
  pub own : EachHas parts Answers left answers
  pub before : List ℕ
  pub whole : joined blocks ≡ before ++ (block ++ joined left)
  pub advances : IsTrue a.told → Advances parts Answers before [] old now a b
  pub number : now.number + length (block ++ joined left) ≤ old.number + length (joined blocks)

-- an answer speaks of no more lines than its block has bytes
pub lines_in-fit : (parts : PresentationParts) (Answers : List ℕ → List ℕ → Type 0) (block : List ℕ) (answer : BlockAnswer)
    → IsBlockAnswer parts Answers block answer → lines_in answer ≤ length block
lines_in-fit parts Answers block (Given count text) is =
    let fit = lines-fit is.lines in
    let counted = is.counted in
    let whole = ap length is.cuts.whole in
    omega (arith, fit, counted, whole, length-append (ended is.lines) is.rest)
lines_in-fit parts Answers block (Faulty count text fault) is =
    let fit = lines-fit is.lines in
    let counted = is.counted in
    let whole = ap length is.whole in
    omega (arith, fit, counted, whole, length-append (ended is.lines ++ is.line) (newline ∷ is.behind), length-append (ended is.lines) is.line)

-- no answer is left
none-left : (parts : PresentationParts) (Answers : List ℕ → List ℕ → Type 0) (left : List (List ℕ)) → EachHas parts Answers left [] → joined left ≡ []
none-left parts Answers [] own = refl
none-left parts Answers (block ∷ left) own = absurd own

module _ {parts : PresentationParts} {Answers : List ℕ → List ℕ → Type 0} where
  -- the lines of a block are all that end in it
  gives-all : {block text : List ℕ} {count : ℕ} → AreLines block → (gives : BlockGives parts Answers block count text) → gives.rest ≡ []
  gives-all are gives =
      let cut = one-cut are.lines gives.lines [] gives.rest are.cuts.each gives.cuts.each tt gives.cuts.open_line (sym are.cuts.whole ∙ gives.cuts.whole) in
      sym cut.1

  -- the text of a block was added
  pub block-advances : {block text : List ℕ} {count : ℕ} {old new : Progress} {a b : SinkState} → AreLines block
      → BlockGives parts Answers block count text → old.line.items ≡ [] → new.line.items ≡ [] → new.number ≡ old.number + count
      → PendingGoesOn text old.pending.items new.pending.items a b → Advances parts Answers block [] old new a b
  block-advances {block} {text} {old = old} {new = new} are gives fresh still number pending = record {
    lines = gives.lines;
    whole = ap (λ l. l ++ block) fresh ∙ gives.cuts.whole
        ∙ ap (λ r. ended gives.lines ++ r) (gives-all are gives ∙ sym (append-nil new.line.items ∙ still));
    each = gives.cuts.each;
    open_line = subst IsOneLine (sym still) tt;
    number = number ∙ ap (λ n. old.number + n) gives.counted;
    given = text;
    answered = gives.answered;
    pending = pending;
  }

  -- a front of it was sent
  pub block-front : {block text : List ℕ} {count : ℕ} {old : Progress} {a b : SinkState} (middle : List ℕ)
      → BlockGives parts Answers block count text → old.line.items ≡ [] → middle ≡ old.pending.items ++ text
      → AppendsPrefix a.written b.written middle → FrontIn parts Answers block old a b
  block-front {block} {text} {old = old} {a} {b} middle gives fresh added front = record {
    lines = gives.lines;
    each = gives.cuts.each;
    rest = gives.rest;
    at_front = ap (λ l. l ++ block) fresh ∙ gives.cuts.whole;
    given = text;
    answered = gives.answered;
    unsent = front.rest;
    pending = pending-front text old.pending.items middle a b added front;
  }

  pub refused-front : {block text : List ℕ} {count : ℕ} {fault : WordError} {old : Progress} {a b : SinkState} (middle : List ℕ)
      → BlockRefused parts Answers block count text fault → old.line.items ≡ [] → middle ≡ old.pending.items ++ text
      → AppendsPrefix a.written b.written middle → FrontIn parts Answers block old a b
  refused-front {block} {text} {old = old} {a} {b} middle refused fresh added front = record {
    lines = refused.lines;
    each = refused.each;
    rest = refused.line ++ newline ∷ refused.behind;
    at_front = ap (λ l. l ++ block) fresh ∙ refused.whole ∙ append_assoc (ended refused.lines) refused.line (newline ∷ refused.behind);
    given = text;
    answered = refused.answered;
    unsent = front.rest;
    pending = pending-front text old.pending.items middle a b added front;
  }

  -- all before the line that is refused was sent
  pub block-refuses : {block text : List ℕ} {count number : ℕ} {fault : WordError} {old : Progress} {a b : SinkState} (middle : List ℕ)
      → BlockRefused parts Answers block count text fault → old.line.items ≡ [] → middle ≡ old.pending.items ++ text
      → number ≡ old.number + (count + 1) → b.written ≡ a.written ++ middle → RefusesIn parts Answers block old a b number fault
  block-refuses {block} {text} {old = old} {a} {b} middle refused fresh added counted sent = record {
    lines = refused.lines;
    line = refused.line;
    behind = refused.behind;
    whole = ap (λ l. l ++ block) fresh ∙ refused.whole;
    each = refused.each;
    one = refused.one;
    counted = let count = refused.counted in omega (arith, counted, count);
    given = text;
    answered = refused.answered;
    faulty = refused.faulty;
    sent = sent ∙ ap (λ m. a.written ++ m) added;
  }

  each-has : (blocks : List (List ℕ)) (answers : List BlockAnswer) → AreBlockAnswers parts Answers blocks answers → EachHas parts Answers blocks answers
  each-has [] [] are = tt
  each-has [] (answer ∷ answers) are = let count = are.count in absurd (omega (arith, count))
  each-has (block ∷ blocks) [] are = let count = are.count in absurd (omega (arith, count))
  each-has (block ∷ blocks) (answer ∷ answers) are =
      let count = are.count in (
        are.each 0 answer refl,
        each-has blocks answers (record {
          count = omega (arith, count);
          each = λ place one at. are.each (suc place) one at;
        }),
      )

  pub adding-start : (blocks : List (List ℕ)) (answers : List BlockAnswer) (progress : Progress) (a : SinkState)
      → AllByRecursion AreLines blocks → AreBlockAnswers parts Answers blocks answers → progress.line.items ≡ []
      → IsAdding parts Answers blocks answers progress progress a a
  adding-start blocks answers progress a each are fresh = record {
    left = blocks;
    each = each;
    own = each-has blocks answers are;
    before = [];
    whole = refl;
    advances = λ told. advances-start [] (record { told = told; open_line = subst IsOneLine (sym fresh) tt });
    number = omega arith;
  }

  next-of : {blocks : List (List ℕ)} {answer : BlockAnswer} {answers : List BlockAnswer} {old now : Progress} {a b : SinkState}
      (left : List (List ℕ)) (before : List ℕ) → AllByRecursion AreLines left → EachHas parts Answers left (answer ∷ answers)
      → joined blocks ≡ before ++ joined left → (IsTrue a.told → Advances parts Answers before [] old now a b)
      → now.number + length (joined left) ≤ old.number + length (joined blocks) → IsNext parts Answers blocks answer answers old now a b
  next-of [] before each own whole advances number = absurd own
  next-of (block ∷ left) before each own whole advances number = record {
    block = block;
    are = each.0;
    is = own.0;
    left = left;
    each = each.1;
    own = own.1;
    before = before;
    whole = whole;
    advances = advances;
    number = number;
  }

  pub adding-next : {blocks : List (List ℕ)} {all : List BlockAnswer} {old now : Progress} {a b : SinkState}
      (answer : BlockAnswer) (answers : List BlockAnswer) → all ≡ answer ∷ answers
      → IsAdding parts Answers blocks all old now a b → IsNext parts Answers blocks answer answers old now a b
  adding-next answer answers is adding =
      next-of adding.left adding.before adding.each (subst (λ (list : List BlockAnswer). EachHas parts Answers adding.left list) is adding.own)
      adding.whole adding.advances adding.number

  pub added-next : {blocks : List (List ℕ)} {answer : BlockAnswer} {answers : List BlockAnswer} {old now new : Progress} {a b c : SinkState}
      → (next : IsNext parts Answers blocks answer answers old now a b)
      → (IsTrue a.told → Advances parts Answers next.block [] now new b c) → new.number ≡ now.number + lines_in answer
      → IsAdding parts Answers blocks answers old new a c
  added-next {answer = answer} next more number = record {
    left = next.left;
    each = next.each;
    own = next.own;
    before = next.before ++ next.block;
    whole = next.whole ∙ sym (append_assoc next.before next.block (joined next.left));
    advances = λ told. advances-append (next.advances told) (more told);
    number =
        let before = next.number in
        let fit = lines_in-fit parts Answers next.block answer next.is in
        omega (arith, number, before, fit, length-append next.block (joined next.left));
  }

  pub next-room : {blocks : List (List ℕ)} {answer : BlockAnswer} {answers : List BlockAnswer} {old now : Progress} {a b : SinkState}
      → IsNext parts Answers blocks answer answers old now a b → now.number + lines_in answer ≤ old.number + length (joined blocks)
  next-room {answer = answer} next =
      let before = next.number in
      let fit = lines_in-fit parts Answers next.block answer next.is in
      omega (arith, before, fit, length-append next.block (joined next.left))

  pub next-stops : {blocks : List (List ℕ)} {answer : BlockAnswer} {answers : List BlockAnswer} {old now : Progress} {a b : SinkState}
      (c : SinkState) (stop : Stop) → (next : IsNext parts Answers blocks answer answers old now a b) → IsTrue a.told
      → StopsIn parts Answers next.block now b c stop → StopsIn parts Answers (joined blocks) old a c stop
  next-stops {old = old} {a = a} c stop next told stops =
      subst (λ (w : List ℕ). StopsIn parts Answers w old a c stop)
      (append_assoc next.before next.block (joined next.left) ∙ sym next.whole)
      (stops-more parts Answers (next.before ++ next.block) (joined next.left) old a c stop (stops-append next.block c stop (next.advances told) stops))

  pub adding-end : {blocks : List (List ℕ)} {answers : List BlockAnswer} {old now : Progress} {a b : SinkState} → answers ≡ []
      → IsAdding parts Answers blocks answers old now a b → IsTrue a.told → Advances parts Answers (joined blocks) [] old now a b
  adding-end {old = old} {now = now} {a = a} {b = b} none adding told =
      let left = none-left parts Answers adding.left (subst (λ (list : List BlockAnswer). EachHas parts Answers adding.left list) none adding.own) in
      subst (λ (w : List ℕ). Advances parts Answers w [] old now a b)
      (sym (adding.whole ∙ ap (λ l. adding.before ++ l) left ∙ append-nil adding.before)) (adding.advances told)

-- the lines before the rest of the bytes give the text
pub record IsWithin (parts : PresentationParts) (Answers : List ℕ → List ℕ → Type 0) (bytes rest : List ℕ) (count : ℕ) (text : List ℕ) : Type 0 where
  pub lines : List (List ℕ)
  pub whole : bytes ≡ ended lines ++ rest
  pub each : AllByRecursion IsOneLine lines
  pub counted : count ≡ length lines
  pub answered : LinesGive parts Answers lines text

module _ {parts : PresentationParts} {Answers : List ℕ → List ℕ → Type 0} where
  pub within-start : (bytes text : List ℕ) → text ≡ [] → IsWithin parts Answers bytes bytes 0 text
  within-start bytes text none = record { lines = []; whole = refl; each = tt; counted = refl; answered = none }

  pub within-next : {bytes rest text more : List ℕ} {count : ℕ} (line behind : List ℕ) → IsWithin parts Answers bytes rest count text
      → rest ≡ line ++ newline ∷ behind → IsOneLine line → AddsGiven parts Answers line text more
      → IsWithin parts Answers bytes behind (count + 1) more
  within-next {text = text} line behind within split one adds = record {
    lines = within.lines ++ line ∷ [];
    whole = within.whole ∙ ap (λ r. ended within.lines ++ r) split ∙ ended-next within.lines line behind;
    each = all-append IsOneLine within.lines (line ∷ []) within.each (one, tt);
    counted = let count = within.counted in omega (arith, count, length-append within.lines (line ∷ []));
    answered = subst (λ (t : List ℕ). LinesGive parts Answers (within.lines ++ line ∷ []) t) (sym adds.added)
        (gives-next parts Answers within.lines line text adds.given within.answered adds.gives);
  }

  pub within-refused : {bytes rest text : List ℕ} {count : ℕ} (line behind after : List ℕ) (fault : WordError) → IsWithin parts Answers bytes rest count text
      → rest ≡ line ++ newline ∷ behind → IsOneLine line → LineHasFault parts line fault → after ≡ text → BlockRefused parts Answers bytes count after fault
  within-refused line behind after fault within split one faulty kept = record {
    lines = within.lines;
    line = line;
    behind = behind;
    whole = within.whole ∙ ap (λ r. ended within.lines ++ r) split ∙ sym (append_assoc (ended within.lines) line (newline ∷ behind));
    each = within.each;
    one = one;
    counted = within.counted;
    answered = subst (λ (t : List ℕ). LinesGive parts Answers within.lines t) (sym kept) within.answered;
    faulty = faulty;
  }

  pub within-end : {bytes rest text : List ℕ} {count : ℕ} → IsWithin parts Answers bytes rest count text → IsOneLine rest
      → BlockGives parts Answers bytes count text
  within-end {rest = rest} within one = record {
    lines = within.lines;
    rest = rest;
    cuts = record { whole = within.whole; each = within.each; open_line = one };
    counted = within.counted;
    answered = within.answered;
  }
