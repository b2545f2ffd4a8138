-- How a batch goes on: lines are taken, and then answered together.
use Rattle.std.proofs.Common.{◌≡◌, ◌≢◌, ℕ, ◌+◌, ◌<◌, ◌≤◌, List, [], ◌∷◌, ◌++◌, length, refl, sym, ◌∙◌, ap, ap₂, subst, append_assoc, append-nil, arith, length-append}
use Rattle.std.specs.Prelude.{IsTrue, Bool, true, false, nat_eq, if◌then◌else◌}
use Rattle.std.proofs.lemmas.Bool.{ne_eqb}
use Rattle.std.specs.List.{AllByRecursion}
use Rattle.kb_io.specs.Bytes.{newline}
use Rattle.kb_io.specs.States.{SinkState}
use Rattle.kb_word.specs.Presentations.{PresentationParts}
use Rattle.kb_record.specs.declared.error.WordError.{WordError}
use Rattle.kb_lines.specs.WordLines.{IsOneLine, ended}
use Rattle.kb_lines.specs.Progress.{IsReady, Advances, FrontIn, RefusesIn, StopsIn}
use Rattle.kb_lines.specs.Batches.{held, taken, joined, newlines, lines_held, AreLines, IsNew, IsHeld, IsShortOfBatch, least_taken, BatchAdvances}
use Rattle.kb_lines.specs.declared.batch.Batch.{Batch}
use Rattle.kb_lines.specs.declared.progress.Progress.{Progress}
use Rattle.kb_lines.specs.declared.stop.Stop.{Stop}
use Rattle.kb_lines.specs.declared.stop.Stop.TheVariants.{Refused, TooLong, Input, Output, Memory}
use Rattle.kb_lines.proofs.LineLemmas.{all-append, ended-next}
use Rattle.kb_lines.proofs.ProgressLemmas.{advances-start, advances-end, advances-none, advances-append, stops-append}

-- ---- lines that are counted

pub newlines-append : (bytes more : List ℕ) → newlines (bytes ++ more) ≡ newlines bytes + newlines more
newlines-append [] more = omega arith
newlines-append (byte ∷ bytes) more = let others = newlines-append bytes more in omega (arith, others)

-- one line has none
pub one-line : (line : List ℕ) → IsOneLine line → newlines line ≡ 0
one-line [] one = refl
one-line (byte ∷ line) one =
    let others = one-line line one.1 in
    let worth : Bool → ℕ = λ is. if is then 1 else 0 in
    let this = ap worth (ne_eqb byte newline one.0) in
    omega (arith, others, this)

-- what has come of the next line doesn't count
pub line-behind : (bytes line : List ℕ) → IsOneLine line → newlines (bytes ++ line) ≡ newlines bytes
line-behind bytes line one = let none = one-line line one in omega (arith, none, newlines-append bytes line)

-- one line more, of which this is the end
pub line-more : (bytes end : List ℕ) → IsOneLine end → newlines (bytes ++ (end ++ newline ∷ [])) ≡ newlines bytes + 1
line-more bytes end one =
    let none = one-line end one in
    let last : newlines (newline ∷ []) ≡ 1 = refl in
    omega (arith, none, last, newlines-append bytes (end ++ newline ∷ []), newlines-append end (newline ∷ []))

one-at-most : (is : Bool) → (if is then 1 else 0) ≤ 1
one-at-most true = omega arith
one-at-most false = omega arith

-- each is a byte
pub newlines-fit : (bytes : List ℕ) → newlines bytes ≤ length bytes
newlines-fit [] = omega arith
newlines-fit (byte ∷ bytes) =
    let others = newlines-fit bytes in
    let this = one-at-most (nat_eq byte newline) in
    omega (arith, others, this)

-- ---- what is held

-- each line has a byte at least, its newline
pub lines-fit : (lines : List (List ℕ)) → length lines ≤ length (ended lines)
lines-fit [] = omega arith
lines-fit (line ∷ lines) =
    let others = lines-fit lines in omega (arith, others, length-append line (newline ∷ ended lines))

-- a new batch holds nothing
pub new-holds_nothing : (batch : Batch) → IsNew batch → held batch ≡ []
new-holds_nothing batch new =
    ap₂ (λ (bytes line : List ℕ). bytes ++ line) (ap₂ (λ (blocks : List (List ℕ)) (block : List ℕ). joined blocks ++ block) new.blocks new.block) new.line

-- no bytes are no lines
pub no-lines : AreLines []
no-lines = record { lines = []; cuts = record { whole = refl; each = tt; open_line = tt } }

pub new-held : (batch : Batch) → IsNew batch → IsHeld batch
new-held batch new = record {
  each = subst (AllByRecursion AreLines) (sym new.blocks) tt;
  few = subst (λ (blocks : List (List ℕ)). length blocks ≤ length (joined blocks)) (sym new.blocks) (omega arith);
  open_block = subst AreLines (sym new.block) no-lines;
  open_line = subst IsOneLine (sym new.line) tt;
  counted = new.count ∙ sym (ap newlines (new-holds_nothing batch new));
  fresh = new.progress.line;
  sent = new.progress.pending;
}

-- and so nothing waits
pub new-short : (batch : Batch) (size : ℕ) → IsNew batch → 1 < size → IsShortOfBatch size batch
new-short batch size new some = record {
  caught_up = record { sent = new.progress.pending; open_line = subst IsOneLine (sym new.progress.line) tt };
  fewer = let none = ap newlines (new-holds_nothing batch new) in omega (arith, none, some);
}

-- one line more makes lines
pub more-lines : (bytes line : List ℕ) → AreLines bytes → IsOneLine line → AreLines (bytes ++ (line ++ newline ∷ []))
more-lines bytes line are one = record {
  lines = are.lines ++ line ∷ [];
  cuts = record {
    whole = ap (λ b. b ++ (line ++ newline ∷ [])) (are.cuts.whole ∙ append-nil (ended are.lines)) ∙ ended-next are.lines line [];
    each = all-append IsOneLine are.lines (line ∷ []) are.cuts.each (one, tt);
    open_line = tt;
  };
}

-- a line was taken: it ended with these bytes and a newline
pub added-held_bytes : (end : List ℕ) (old : Batch) (blocks : List (List ℕ)) (block line : List ℕ)
    → block ≡ old.block.items ++ ((old.line.items ++ end) ++ newline ∷ []) → blocks ≡ old.blocks.items → line ≡ []
    → (joined blocks ++ block) ++ line ≡ held old ++ (end ++ newline ∷ [])
added-held_bytes end old blocks block line added same none =
    let front = joined old.blocks.items in
    ap₂ (λ (bytes line : List ℕ). bytes ++ line) (ap₂ (λ (bs : List (List ℕ)) (b : List ℕ). joined bs ++ b) same added) none
    ∙ append-nil (front ++ (old.block.items ++ ((old.line.items ++ end) ++ newline ∷ [])))
    ∙ ap (λ l. front ++ (old.block.items ++ l)) (append_assoc old.line.items end (newline ∷ []))
    ∙ sym (append_assoc front old.block.items (old.line.items ++ (end ++ newline ∷ [])))
    ∙ sym (append_assoc (front ++ old.block.items) old.line.items (end ++ newline ∷ []))

-- they count as bytes that were taken
pub taken-least : (end : List ℕ) (old new : Batch) → held new ≡ held old ++ (end ++ newline ∷ []) → new.progress ≡ old.progress
    → least_taken new ≡ least_taken old + length end + 1
taken-least end old new whole same =
    let count = ap (λ (p : Progress). p.number) same in
    let bytes = ap length whole in
    omega (arith, count, bytes, length-append (held old) (end ++ newline ∷ []), length-append end (newline ∷ []))

-- the block that is open has one line more
pub added-held : (end : List ℕ) (old new : Batch) → new.block.items ≡ old.block.items ++ ((old.line.items ++ end) ++ newline ∷ [])
    → new.blocks.items ≡ old.blocks.items → new.line.items ≡ [] → new.count ≡ old.count + 1 → new.progress ≡ old.progress → IsHeld old
    → IsOneLine end → IsHeld new
added-held end old new added same none count progress is one = record {
  each = subst (AllByRecursion AreLines) (sym same) is.each;
  few = subst (λ (bs : List (List ℕ)). length bs ≤ length (joined bs)) (sym same) is.few;
  open_block = subst AreLines (sym added) (more-lines old.block.items (old.line.items ++ end) is.open_block
      (all-append (λ byte. byte ≢ newline) old.line.items end is.open_line one));
  open_line = subst IsOneLine (sym none) tt;
  counted =
      let before = is.counted in
      let all = ap newlines (added-held_bytes end old new.blocks.items new.block.items new.line.items added same none) in
      omega (arith, count, before, all, line-more (held old) end one);
  fresh = ap (λ (p : Progress). p.line.items) progress ∙ is.fresh;
  sent = ap (λ (p : Progress). p.pending.items) progress ∙ is.sent;
}

-- a batch that has room for a line is of some lines
pub some-lines : {count size : ℕ} → count < size → 0 < size
some-lines fewer = omega arith

-- fewer lines are held than make a batch
pub held-short : (batch : Batch) (size : ℕ) → IsHeld batch → lines_held batch < size → IsShortOfBatch size batch
held-short batch size is fewer = record {
  caught_up = record { sent = is.sent; open_line = subst IsOneLine (sym is.fresh) tt };
  fewer = fewer;
}

-- no lines wait
pub none-wait : (blocks : List (List ℕ)) (block : List ℕ) → blocks ≡ [] → block ≡ [] → joined blocks ++ block ≡ []
none-wait blocks block none empty = ap₂ (λ (bs : List (List ℕ)) (b : List ℕ). joined bs ++ b) none empty

-- all lines that were taken were answered
pub answered-held_bytes : (old new : Batch) → taken new ≡ [] → new.line.items ≡ old.line.items → held new ≡ old.line.items
answered-held_bytes old new none same = ap₂ (λ (bytes line : List ℕ). bytes ++ line) none same

-- no line is held where none was taken
pub none-held : (batch : Batch) → IsHeld batch → taken batch ≡ [] → lines_held batch ≡ 0
none-held batch is none =
    ap (λ (bytes : List ℕ). newlines (bytes ++ batch.line.items)) none ∙ one-line batch.line.items is.open_line

pub answered-held : (old new : Batch) → IsHeld old → new.blocks.items ≡ [] → new.block.items ≡ [] → new.line.items ≡ old.line.items
    → new.count ≡ 0 → new.progress.line.items ≡ [] → new.progress.pending.items ≡ [] → IsHeld new
answered-held old new is none empty same count fresh sent = record {
  each = subst (AllByRecursion AreLines) (sym none) tt;
  few = subst (λ (bs : List (List ℕ)). length bs ≤ length (joined bs)) (sym none) (omega arith);
  open_block = subst AreLines (sym empty) no-lines;
  open_line = subst IsOneLine (sym same) is.open_line;
  counted =
      let all = ap newlines (answered-held_bytes old new (none-wait new.blocks.items new.block.items none empty) same) in
      let line = one-line old.line.items is.open_line in
      omega (arith, count, all, line);
  fresh = fresh;
  sent = sent;
}

-- no more were answered than bytes were taken
pub answered-least : (old : Batch) (blocks : List (List ℕ)) (block line : List ℕ) (number : ℕ) → joined blocks ++ block ≡ []
    → line ≡ old.line.items → number ≤ old.progress.number + length (taken old)
    → number + length ((joined blocks ++ block) ++ line) ≤ least_taken old
answered-least old blocks block line number none same count =
    let bytes = ap length (ap₂ (λ (bytes line : List ℕ). bytes ++ line) none same) in
    omega (arith, count, bytes, length-append (taken old) old.line.items)

-- more has come of the line that has begun
pub more-lines_held : (rest : List ℕ) (old new : Batch) → IsOneLine rest → new.blocks.items ≡ old.blocks.items
    → new.block.items ≡ old.block.items → new.line.items ≡ old.line.items ++ rest → lines_held new ≡ lines_held old
more-lines_held rest old new one blocks block line =
    ap newlines
    (ap₂ (λ (bytes line : List ℕ). bytes ++ line) (ap₂ (λ (bs : List (List ℕ)) (b : List ℕ). joined bs ++ b) blocks block) line
    ∙ sym (append_assoc (taken old) old.line.items rest))
    ∙ line-behind (held old) rest one

pub more-held : (rest : List ℕ) (old new : Batch) → IsHeld old → IsOneLine rest → new.blocks.items ≡ old.blocks.items
    → new.block.items ≡ old.block.items → new.line.items ≡ old.line.items ++ rest → new.count ≡ old.count → new.progress ≡ old.progress
    → IsHeld new
more-held rest old new is one blocks block line count progress = record {
  each = subst (AllByRecursion AreLines) (sym blocks) is.each;
  few = subst (λ (bs : List (List ℕ)). length bs ≤ length (joined bs)) (sym blocks) is.few;
  open_block = subst AreLines (sym block) is.open_block;
  open_line = subst IsOneLine (sym line) (all-append (λ byte. byte ≢ newline) old.line.items rest is.open_line one);
  counted = count ∙ is.counted ∙ sym (more-lines_held rest old new one blocks block line);
  fresh = ap (λ (p : Progress). p.line.items) progress ∙ is.fresh;
  sent = ap (λ (p : Progress). p.pending.items) progress ∙ is.sent;
}

-- one block more
pub joined-next : (blocks : List (List ℕ)) (block : List ℕ) → joined (blocks ++ block ∷ []) ≡ joined blocks ++ block
joined-next [] block = append-nil block
joined-next (first ∷ blocks) block = ap (λ rest. first ++ rest) (joined-next blocks block) ∙ sym (append_assoc first (joined blocks) block)

pub one-more : (blocks all : List (List ℕ)) (block own : List ℕ) → all ≡ blocks ++ own ∷ [] → own ≡ block → all ≡ blocks ++ block ∷ []
one-more blocks all block own is same = is ∙ ap (λ (b : List ℕ). blocks ++ b ∷ []) same

some-length : (xs : List ℕ) → xs ≢ [] → 1 ≤ length xs
some-length [] some = absurd (some refl)
some-length (x ∷ xs) some = omega arith

-- no blocks have no bytes
pub no-joined : (blocks : List (List ℕ)) → blocks ≡ [] → joined blocks ≡ []
no-joined blocks none = ap joined none

-- a block ended: it holds the same bytes
pub ended-held_bytes : (old new : Batch) → joined new.blocks.items ≡ taken old → new.block.items ≡ [] → new.line.items ≡ old.line.items
    → held new ≡ held old
ended-held_bytes old new all none line =
    ap₂ (λ (bytes line : List ℕ). bytes ++ line)
    (ap₂ (λ (blocks block : List ℕ). blocks ++ block) all none ∙ append-nil (taken old)) line

pub ended-held : (old new : Batch) → IsHeld old → old.block.items ≢ [] → new.blocks.items ≡ old.blocks.items ++ old.block.items ∷ []
    → new.block.items ≡ [] → new.line.items ≡ old.line.items → new.count ≡ old.count → new.progress ≡ old.progress → IsHeld new
ended-held old new is some more none line count progress = record {
  each = subst (AllByRecursion AreLines) (sym more) (all-append AreLines old.blocks.items (old.block.items ∷ []) is.each (is.open_block, tt));
  few =
      let fewer = is.few in
      let longer = some-length old.block.items some in
      subst (λ (bs : List (List ℕ)). length bs ≤ length (joined bs)) (sym more)
      (let next = ap length (joined-next old.blocks.items old.block.items) in
      omega (arith, fewer, longer, next, length-append old.blocks.items (old.block.items ∷ []), length-append (joined old.blocks.items) old.block.items));
  open_block = subst AreLines (sym none) no-lines;
  open_line = subst IsOneLine (sym line) is.open_line;
  counted = count ∙ is.counted
      ∙ sym (ap newlines (ended-held_bytes old new (ap joined more ∙ joined-next old.blocks.items old.block.items) none line));
  fresh = ap (λ (p : Progress). p.line.items) progress ∙ is.fresh;
  sent = ap (λ (p : Progress). p.pending.items) progress ∙ is.sent;
}

-- ---- bytes behind those among which the answers stop

module _ {parts : PresentationParts} {Answers : List ℕ → List ℕ → Type 0} where
  front-more : {bytes : List ℕ} {old : Progress} {a b : SinkState} (more : List ℕ) → FrontIn parts Answers bytes old a b
      → FrontIn parts Answers (bytes ++ more) old a b
  front-more {bytes} {old} more front = record {
    lines = front.lines;
    each = front.each;
    rest = front.rest ++ more;
    at_front = sym (append_assoc old.line.items bytes more) ∙ ap (λ w. w ++ more) front.at_front
        ∙ append_assoc (ended front.lines) front.rest more;
    given = front.given;
    answered = front.answered;
    unsent = front.unsent;
    pending = front.pending;
  }

  refuses-more : {bytes : List ℕ} {old : Progress} {a b : SinkState} {number : ℕ} {fault : WordError} (more : List ℕ)
      → RefusesIn parts Answers bytes old a b number fault → RefusesIn parts Answers (bytes ++ more) old a b number fault
  refuses-more {bytes} {old} more refuses = record {
    lines = refuses.lines;
    line = refuses.line;
    behind = refuses.behind ++ more;
    whole = sym (append_assoc old.line.items bytes more) ∙ ap (λ w. w ++ more) refuses.whole
        ∙ append_assoc (ended refuses.lines ++ refuses.line) (newline ∷ refuses.behind) more;
    each = refuses.each;
    one = refuses.one;
    counted = refuses.counted;
    given = refuses.given;
    answered = refuses.answered;
    faulty = refuses.faulty;
    sent = refuses.sent;
  }

-- the same of each stop
pub stops-more : (parts : PresentationParts) (Answers : List ℕ → List ℕ → Type 0) (bytes more : List ℕ) (old : Progress) (a b : SinkState)
    (stop : Stop) → StopsIn parts Answers bytes old a b stop → StopsIn parts Answers (bytes ++ more) old a b stop
stops-more parts Answers bytes more old a b (Refused number fault) stops = refuses-more more stops
stops-more parts Answers bytes more old a b Output stops = front-more more stops
stops-more parts Answers bytes more old a b Memory stops = front-more more stops
stops-more parts Answers bytes more old a b TooLong stops = absurd stops
stops-more parts Answers bytes more old a b Input stops = absurd stops

-- the answers stop among the lines that were taken, in blocks
pub ended-stops : (parts : PresentationParts) (Answers : List ℕ → List ℕ → Type 0) (old middle : Batch) (a b : SinkState) (stop : Stop)
    → joined middle.blocks.items ≡ taken old → middle.progress ≡ old.progress
    → StopsIn parts Answers (joined middle.blocks.items) middle.progress a b stop → StopsIn parts Answers (taken old) old.progress a b stop
ended-stops parts Answers old middle a b stop all same stops =
    subst (λ (progress : Progress). StopsIn parts Answers (taken old) progress a b stop) same
    (subst (λ (bytes : List ℕ). StopsIn parts Answers bytes middle.progress a b stop) all stops)

-- ---- a batch that goes on

-- nothing is pending, and no line has begun behind the lines that were answered
held-ready : (batch : Batch) (a : SinkState) → IsTrue a.told → IsHeld batch → IsReady batch.progress a
held-ready batch a told is = record { told = told; open_line = subst IsOneLine (sym is.fresh) tt }

module _ {parts : PresentationParts} {Answers : List ℕ → List ℕ → Type 0} where
  pub batch-start : (bytes : List ℕ) (batch : Batch) (a : SinkState) → IsTrue a.told → IsHeld batch
      → BatchAdvances parts Answers bytes bytes batch batch a a
  batch-start bytes batch a told is = record {
    answered = [];
    whole = refl;
    advances = advances-start [] (held-ready batch a told is);
  }

  -- more bytes behind those
  pub batch-then : {bytes rest : List ℕ} {old middle new : Batch} {a b c : SinkState} (front behind : List ℕ)
      → BatchAdvances parts Answers bytes rest old middle a b → rest ≡ front ++ behind
      → BatchAdvances parts Answers front [] middle new b c → BatchAdvances parts Answers bytes behind old new a c
  batch-then {middle = middle} {new = new} front behind first split next = record {
    answered = first.answered ++ next.answered;
    whole = first.whole
        ∙ ap (λ r. first.answered ++ (held middle ++ r)) split
        ∙ ap (λ h. first.answered ++ h) (sym (append_assoc (held middle) front behind)
        ∙ ap (λ h. h ++ behind) (next.whole ∙ ap (λ h. next.answered ++ h) (append-nil (held new)))
        ∙ append_assoc next.answered (held new) behind)
        ∙ sym (append_assoc first.answered next.answered (held new ++ behind));
    advances = advances-append first.advances next.advances;
  }

  -- the rest of the bytes is held, behind what has come of the line
  pub batch-end : {bytes rest : List ℕ} {old middle : Batch} {a b : SinkState} (new : Batch)
      → BatchAdvances parts Answers bytes rest old middle a b → taken new ≡ taken middle
      → new.line.items ≡ middle.line.items ++ rest → new.progress ≡ middle.progress
      → BatchAdvances parts Answers bytes [] old new a b
  batch-end {bytes} {rest} {old} {middle} {a} {b} new so_far lines line progress = record {
    answered = so_far.answered;
    whole = so_far.whole ∙ ap (λ h. so_far.answered ++ h) (append_assoc (taken middle) middle.line.items rest
        ∙ ap₂ (λ (t l : List ℕ). t ++ l) (sym lines) (sym line) ∙ sym (append-nil (held new)));
    advances = subst (λ (p : Progress). Advances parts Answers so_far.answered [] old.progress p a b) (sym progress) so_far.advances;
  }

  -- no line was taken
  pub none-taken : (batch : Batch) (a : SinkState) → IsTrue a.told → IsHeld batch → taken batch ≡ []
      → Advances parts Answers (taken batch) [] batch.progress batch.progress a a
  none-taken batch a told is none =
      subst (λ (bytes : List ℕ). Advances parts Answers bytes [] batch.progress batch.progress a a) (sym none)
      (advances-start [] (held-ready batch a told is))

  -- what was answered in blocks are the lines that were taken
  pub ended-advances : {a b : SinkState} (old middle : Batch) (new : Progress) → joined middle.blocks.items ≡ taken old
      → middle.progress ≡ old.progress → Advances parts Answers (joined middle.blocks.items) [] middle.progress new a b
      → Advances parts Answers (taken old) [] old.progress new a b
  ended-advances {a} {b} old middle new all same advances =
      subst (λ (progress : Progress). Advances parts Answers (taken old) [] progress new a b) same
      (subst (λ (bytes : List ℕ). Advances parts Answers bytes [] middle.progress new a b) all advances)

  -- a line was taken
  pub batch-taken : (bytes : List ℕ) (old new : Batch) (a : SinkState) → IsTrue a.told → IsHeld old
      → held new ≡ held old ++ bytes → new.progress ≡ old.progress → BatchAdvances parts Answers bytes [] old new a a
  batch-taken bytes old new a told is whole progress = record {
    answered = [];
    whole = sym whole ∙ sym (append-nil (held new));
    advances = subst (λ (p : Progress). Advances parts Answers [] [] old.progress p a a) (sym progress)
        (advances-start [] (held-ready old a told is));
  }

  -- then all lines that were taken were answered
  pub batch-answered : {bytes : List ℕ} {old middle : Batch} {a b : SinkState} (new : Batch) (c : SinkState)
      → BatchAdvances parts Answers bytes [] old middle a b
      → Advances parts Answers (taken middle) [] middle.progress new.progress b c
      → taken new ≡ [] → new.line.items ≡ middle.line.items → BatchAdvances parts Answers bytes [] old new a c
  batch-answered {middle = middle} {b = b} new c first advances none same =
      let next : BatchAdvances parts Answers [] [] middle new b c = record {
        answered = taken middle;
        whole = append-nil (held middle)
            ∙ ap (λ l. taken middle ++ l) (sym (append-nil (held new) ∙ answered-held_bytes middle new none same));
        advances = advances;
      } in
      batch-then [] [] first refl next

  -- the answers stop among the next bytes
  pub batch-stops : {bytes rest : List ℕ} {old middle : Batch} {a b : SinkState} (c : SinkState) (front behind : List ℕ) (stop : Stop)
      → BatchAdvances parts Answers bytes rest old middle a b → rest ≡ front ++ behind
      → StopsIn parts Answers (held middle ++ front) middle.progress b c stop
      → StopsIn parts Answers (held old ++ bytes) old.progress a c stop
  batch-stops {bytes} {rest} {old} {middle} {a} {b} c front behind stop first split stops =
      let whole : (first.answered ++ (held middle ++ front)) ++ behind ≡ held old ++ bytes =
      append_assoc first.answered (held middle ++ front) behind
      ∙ ap (λ h. first.answered ++ h) (append_assoc (held middle) front behind ∙ ap (λ r. held middle ++ r) (sym split))
      ∙ sym first.whole in
      subst (λ (w : List ℕ). StopsIn parts Answers w old.progress a c stop) whole
      (stops-more parts Answers (first.answered ++ (held middle ++ front)) behind old.progress a c stop (stops-append (held middle ++ front) c stop first.advances stops))

  -- or among the lines that were taken
  pub batch-answer_stops : {bytes : List ℕ} {old middle : Batch} {a b : SinkState} (c : SinkState) (stop : Stop)
      → BatchAdvances parts Answers bytes [] old middle a b
      → StopsIn parts Answers (taken middle) middle.progress b c stop
      → StopsIn parts Answers (held old ++ bytes) old.progress a c stop
  batch-answer_stops {middle = middle} {b = b} c stop first stops =
      batch-stops c [] [] stop first refl
      (subst (λ (w : List ℕ). StopsIn parts Answers w middle.progress b c stop) (sym (append-nil (held middle)))
      (stops-more parts Answers (taken middle) middle.line.items middle.progress b c stop stops))

  -- nothing more was sent
  pub batch-none : {bytes rest : List ℕ} {old middle : Batch} {a b : SinkState} → BatchAdvances parts Answers bytes rest old middle a b
      → FrontIn parts Answers (held old ++ bytes) old.progress a b
  batch-none {bytes} {rest} {old} {middle} {a} {b} so_far =
      subst (λ (w : List ℕ). FrontIn parts Answers w old.progress a b) (sym so_far.whole)
      (front-more (held middle ++ rest) (advances-none so_far.advances))

  -- the line that has begun is handed on, where no other is held
  pub batch-last : {bytes : List ℕ} {old middle : Batch} {a b : SinkState} (new : Progress)
      → BatchAdvances parts Answers bytes [] old middle a b → IsTrue b.told → IsHeld middle → taken middle ≡ []
      → new.line.items ≡ middle.line.items → new.number ≡ middle.progress.number → new.pending.items ≡ middle.progress.pending.items
      → Advances parts Answers (held old ++ bytes) [] old.progress new a b
  batch-last {bytes} {old} {middle} {a} {b} new first told is none same number pending =
      let begun : Advances parts Answers middle.line.items [] middle.progress new b b =
      advances-end new (advances-start middle.line.items (held-ready middle b told is)) is.open_line
      (same ∙ ap (λ l. l ++ middle.line.items) (sym is.fresh)) number pending in
      let whole : first.answered ++ middle.line.items ≡ held old ++ bytes =
      sym (first.whole ∙ ap (λ h. first.answered ++ h) (append-nil (held middle) ∙ ap (λ t. t ++ middle.line.items) none)) in
      subst (λ (w : List ℕ). Advances parts Answers w [] old.progress new a b) whole (advances-append first.advances begun)
