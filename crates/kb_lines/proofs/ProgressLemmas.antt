-- How what is held between two reads goes on.
use Rattle.std.proofs.Common.{◌≡◌, ◌≢◌, inl, inr, ℕ, List, [], ◌∷◌, ◌++◌, refl, sym, ◌∙◌, ap, subst, append_assoc, append-nil, arith, length-append, Result, Ok, Err, IfErr, OnErr}
use Rattle.kb_io.specs.Bytes.{newline, AppendsPrefix}
use Rattle.kb_io.specs.States.{SinkState}
use Rattle.kb_word.specs.Presentations.{PresentationParts}
use Rattle.kb_record.specs.declared.error.WordError.{WordError}
use Rattle.kb_lines.specs.WordLines.{IsOneLine, ended, LinesGive, AddsGiven}
use Rattle.kb_lines.specs.Progress.{IsReady, PendingGoesOn, LineEnds, LineFront, LineRefused, LineStops, Advances, FrontIn, RefusesIn, StopsIn}
use Rattle.kb_lines.specs.declared.progress.Progress.{Progress}
use Rattle.kb_lines.specs.declared.stop.Stop.{Stop}
use Rattle.kb_lines.specs.declared.stop.Stop.TheVariants.{Refused, TooLong, Input, Output, Memory}
use Rattle.kb_lines.proofs.LineLemmas.{all-append, ended-append, ended-next, gives-append, gives-next}

-- ---- what is pending

pub pending-then : {given more one two three : List ℕ} {a b c : SinkState} → PendingGoesOn given one two a b
    → PendingGoesOn more two three b c → PendingGoesOn (given ++ more) one three a c
pending-then {given} {more} {one} {two} {three} {a} {b} {c} first next = record {
  sent = first.sent ++ next.sent;
  appended = next.appended ∙ ap (λ w. w ++ next.sent) first.appended ∙ append_assoc a.written first.sent next.sent;
  held = sym (append_assoc one given more) ∙ ap (λ h. h ++ more) first.held ∙ append_assoc first.sent two more
      ∙ ap (λ h. first.sent ++ h) next.held ∙ sym (append_assoc first.sent next.sent three);
}

-- nothing was given or sent
pub pending-stays : (pending : List ℕ) (a : SinkState) → PendingGoesOn [] pending pending a a
pending-stays pending a = record { sent = []; appended = sym (append-nil a.written); held = append-nil pending }

-- what was given is pending
pub pending-given : (given pending pending' : List ℕ) (a : SinkState) → pending' ≡ pending ++ given → PendingGoesOn given pending pending' a a
pending-given given pending pending' a added = record { sent = []; appended = sym (append-nil a.written); held = sym added }

-- all was sent
pub pending-sent : (given pending middle pending' : List ℕ) (a b : SinkState) → middle ≡ pending ++ given → pending' ≡ []
    → b.written ≡ a.written ++ middle → PendingGoesOn given pending pending' a b
pending-sent given pending middle pending' a b added none sent = record {
  sent = middle;
  appended = sent;
  held = sym added ∙ sym (append-nil middle) ∙ ap (λ p. middle ++ p) (sym none);
}

-- a front was sent
pub pending-front : (given pending middle : List ℕ) (a b : SinkState) → middle ≡ pending ++ given
    → (front : AppendsPrefix a.written b.written middle) → PendingGoesOn given pending front.rest a b
pending-front given pending middle a b added front = record {
  sent = front.prefix;
  appended = front.appends;
  held = sym added ∙ front.splits;
}

-- then all that was pending was sent
pub pending-all : {given one two three : List ℕ} {a b c : SinkState} → PendingGoesOn given one two a b → three ≡ []
    → c.written ≡ b.written ++ two → PendingGoesOn given one three a c
pending-all {given} {one} {two} {three} {a} {b} {c} first none sent = record {
  sent = first.sent ++ two;
  appended = sent ∙ ap (λ w. w ++ two) first.appended ∙ append_assoc a.written first.sent two;
  held = first.held ∙ sym (append-nil (first.sent ++ two)) ∙ ap (λ p. (first.sent ++ two) ++ p) (sym none);
}

-- then a front of what was pending was sent
pub pending-cut : {given one two : List ℕ} {a b c : SinkState} → PendingGoesOn given one two a b
    → (front : AppendsPrefix b.written c.written two) → PendingGoesOn given one front.rest a c
pending-cut {given} {one} {two} {a} {b} {c} first front = record {
  sent = first.sent ++ front.prefix;
  appended = front.appends ∙ ap (λ w. w ++ front.prefix) first.appended ∙ append_assoc a.written first.sent front.prefix;
  held = first.held ∙ ap (λ p. first.sent ++ p) front.splits ∙ sym (append_assoc first.sent front.prefix front.rest);
}

-- ---- one line

-- a front of what was pending was sent, and nothing of what the line gives
pub front-before : (parts : PresentationParts) (Answers : List ℕ → List ℕ → Type 0) (line pending : List ℕ) (a b : SinkState)
    → AppendsPrefix a.written b.written pending → LineFront parts Answers line pending a b
front-before parts Answers line pending a b front = record {
  given = [];
  answered = inl refl;
  unsent = front.rest;
  goes_on = pending-front [] pending pending a b (sym (append-nil pending)) front;
}

-- nothing was sent
pub front-none : (parts : PresentationParts) (Answers : List ℕ → List ℕ → Type 0) (line pending : List ℕ) (a : SinkState)
    → LineFront parts Answers line pending a a
front-none parts Answers line pending a = record {
  given = [];
  answered = inl refl;
  unsent = pending;
  goes_on = pending-stays pending a;
}

-- what the line gives was added, and then a front of what is pending was sent
pub added-front : (parts : PresentationParts) (Answers : List ℕ → List ℕ → Type 0) (line pending middle : List ℕ) (a b : SinkState)
    → AddsGiven parts Answers line pending middle → AppendsPrefix a.written b.written middle → LineFront parts Answers line pending a b
added-front parts Answers line pending middle a b adds front = record {
  given = adds.given;
  answered = inr adds.gives;
  unsent = front.rest;
  goes_on = pending-front adds.given pending middle a b adds.added front;
}

-- nothing of the bytes was answered yet
pub nothing-in : (parts : PresentationParts) (Answers : List ℕ → List ℕ → Type 0) (bytes : List ℕ) (progress : Progress) (a : SinkState)
    → FrontIn parts Answers bytes progress a a
nothing-in parts Answers bytes progress a = record {
  lines = [];
  each = tt;
  rest = progress.line.items ++ bytes;
  at_front = refl;
  given = [];
  answered = refl;
  unsent = progress.pending.items;
  pending = pending-stays progress.pending.items a;
}

-- where sending alone can stop
pub send-stops : {T : Type 0} (P : Stop → Type 0) (Front : Type 0) (result : Result T Stop) → IfErr result (λ stop. stop ≡ Output)
    → OnErr result Front → (Front → P Output) → IfErr result P
send-stops P Front (Ok x) output front means = tt
send-stops P Front (Err stop) output front means = subst P (sym output) (means front)

-- a line was answered, and then a front of what is pending was sent
pub ends-front : {parts : PresentationParts} {Answers : List ℕ → List ℕ → Type 0} {line : List ℕ} {old new : Progress} {a b c : SinkState}
    → LineEnds parts Answers line old new a b → AppendsPrefix b.written c.written new.pending.items
    → LineFront parts Answers line old.pending.items a c
ends-front ends front = record {
  given = ends.given;
  answered = inr ends.answered;
  unsent = front.rest;
  goes_on = pending-cut ends.pending front;
}

-- a line was answered, and then all that is pending was sent
pub ends-sent : {parts : PresentationParts} {Answers : List ℕ → List ℕ → Type 0} {line : List ℕ} {old middle : Progress} {a b c : SinkState} (new : Progress)
    → LineEnds parts Answers line old middle a b → new.line.items ≡ middle.line.items → new.number ≡ middle.number → new.pending.items ≡ []
    → c.written ≡ b.written ++ middle.pending.items → LineEnds parts Answers line old new a c
ends-sent new ends same number none sent = record {
  given = ends.given;
  answered = ends.answered;
  fresh = same ∙ ends.fresh;
  number = number ∙ ends.number;
  pending = pending-all ends.pending none sent;
}

-- ---- lines among bytes

module _ {parts : PresentationParts} {Answers : List ℕ → List ℕ → Type 0} where
  pub advances-start : (bytes : List ℕ) {progress : Progress} {a : SinkState} → IsReady progress a
      → Advances parts Answers bytes bytes progress progress a a
  advances-start bytes {progress} {a} ready = record {
    lines = [];
    whole = refl;
    each = tt;
    open_line = ready.open_line;
    number = omega arith;
    given = [];
    answered = refl;
    pending = pending-stays progress.pending.items a;
  }

  -- the bytes are the lines that were answered, the line that goes on to its newline, and what is behind it
  whole-line : {bytes rest : List ℕ} {old middle : Progress} {a b : SinkState} (line behind : List ℕ)
      → (so_far : Advances parts Answers bytes rest old middle a b) → rest ≡ line ++ newline ∷ behind
      → old.line.items ++ bytes ≡ ended so_far.lines ++ ((middle.line.items ++ line) ++ newline ∷ behind)
  whole-line {middle = middle} line behind so_far split =
      so_far.whole
      ∙ ap (λ r. ended so_far.lines ++ (middle.line.items ++ r)) split
      ∙ ap (λ r. ended so_far.lines ++ r) (sym (append_assoc middle.line.items line (newline ∷ behind)))

  long-line : {bytes rest : List ℕ} {old middle : Progress} {a b : SinkState} (line : List ℕ)
      → (so_far : Advances parts Answers bytes rest old middle a b) → IsOneLine line → IsOneLine (middle.line.items ++ line)
  long-line {middle = middle} line so_far one = all-append (λ byte. byte ≢ newline) middle.line.items line so_far.open_line one

  -- the next line was answered
  pub advances-line : {bytes rest : List ℕ} {old middle new : Progress} {a b c : SinkState} (line behind : List ℕ)
      → Advances parts Answers bytes rest old middle a b → rest ≡ line ++ newline ∷ behind → IsOneLine line
      → LineEnds parts Answers (middle.line.items ++ line) middle new b c → Advances parts Answers bytes behind old new a c
  advances-line {middle = middle} line behind so_far split one ends =
      let long : List ℕ = middle.line.items ++ line in
      record {
        lines = so_far.lines ++ long ∷ [];
        whole = whole-line line behind so_far split ∙ ended-next so_far.lines long behind
            ∙ ap (λ l. ended (so_far.lines ++ long ∷ []) ++ (l ++ behind)) (sym ends.fresh);
        each = all-append IsOneLine so_far.lines (long ∷ []) so_far.each (long-line line so_far one, tt);
        open_line = subst IsOneLine (sym ends.fresh) tt;
        number =
            let before = so_far.number in
            let after = ends.number in
            omega (arith, before, after, length-append so_far.lines (long ∷ []));
        given = so_far.given ++ ends.given;
        answered = gives-next parts Answers so_far.lines long so_far.given ends.given so_far.answered ends.answered;
        pending = pending-then so_far.pending ends.pending;
      }

  -- the rest of the bytes has no newline
  pub advances-end : {bytes rest : List ℕ} {old middle : Progress} {a b : SinkState} (new : Progress)
      → Advances parts Answers bytes rest old middle a b → IsOneLine rest
      → new.line.items ≡ middle.line.items ++ rest → new.number ≡ middle.number → new.pending.items ≡ middle.pending.items
      → Advances parts Answers bytes [] old new a b
  advances-end {bytes} {rest} {old} {middle} {a} {b} new so_far one longer number pending = record {
    lines = so_far.lines;
    whole = so_far.whole ∙ ap (λ l. ended so_far.lines ++ l) (sym longer ∙ sym (append-nil new.line.items));
    each = so_far.each;
    open_line = subst IsOneLine (sym longer) (long-line rest so_far one);
    number = number ∙ so_far.number;
    given = so_far.given;
    answered = so_far.answered;
    pending = subst (λ p. PendingGoesOn so_far.given old.pending.items p a b) (sym pending) so_far.pending;
  }

  -- all that is pending was sent
  pub advances-sent : {bytes : List ℕ} {old middle : Progress} {a b c : SinkState} (new : Progress)
      → Advances parts Answers bytes [] old middle a b → new.line.items ≡ middle.line.items → new.number ≡ middle.number
      → new.pending.items ≡ [] → c.written ≡ b.written ++ middle.pending.items → Advances parts Answers bytes [] old new a c
  advances-sent {bytes} {old} {middle} {a} {b} {c} new so_far line number none sent = record {
    lines = so_far.lines;
    whole = so_far.whole ∙ ap (λ l. ended so_far.lines ++ (l ++ [])) (sym line);
    each = so_far.each;
    open_line = subst IsOneLine (sym line) so_far.open_line;
    number = number ∙ so_far.number;
    given = so_far.given;
    answered = so_far.answered;
    pending = pending-all so_far.pending none sent;
  }

  -- a front of what is pending was sent
  pub advances-front : {bytes rest : List ℕ} {old middle : Progress} {a b c : SinkState} → Advances parts Answers bytes rest old middle a b
      → AppendsPrefix b.written c.written middle.pending.items → FrontIn parts Answers bytes old a c
  advances-front {rest = rest} {middle = middle} so_far front = record {
    lines = so_far.lines;
    each = so_far.each;
    rest = middle.line.items ++ rest;
    at_front = so_far.whole;
    given = so_far.given;
    answered = so_far.answered;
    unsent = front.rest;
    pending = pending-cut so_far.pending front;
  }

  -- nothing more was sent
  pub advances-none : {bytes rest : List ℕ} {old middle : Progress} {a b : SinkState} → Advances parts Answers bytes rest old middle a b
      → FrontIn parts Answers bytes old a b
  advances-none {rest = rest} {middle = middle} so_far = record {
    lines = so_far.lines;
    each = so_far.each;
    rest = middle.line.items ++ rest;
    at_front = so_far.whole;
    given = so_far.given;
    answered = so_far.answered;
    unsent = middle.pending.items;
    pending = so_far.pending;
  }

  -- the next line is refused
  pub advances-refused : {bytes rest : List ℕ} {old middle : Progress} {a b c : SinkState} (line behind : List ℕ)
      {number : ℕ} {fault : WordError}
      → Advances parts Answers bytes rest old middle a b → rest ≡ line ++ newline ∷ behind → IsOneLine line
      → LineRefused parts (middle.line.items ++ line) middle.number middle.pending.items b c number fault
      → RefusesIn parts Answers bytes old a c number fault
  advances-refused {middle = middle} {a = a} line behind so_far split one refused = record {
    lines = so_far.lines;
    line = middle.line.items ++ line;
    behind = behind;
    whole = whole-line line behind so_far split ∙ sym (append_assoc (ended so_far.lines) (middle.line.items ++ line) (newline ∷ behind));
    each = so_far.each;
    one = long-line line so_far one;
    counted =
        let before = so_far.number in
        let after = refused.counted in
        omega (arith, before, after);
    given = so_far.given;
    answered = so_far.answered;
    faulty = refused.faulty;
    sent = refused.sent ∙ ap (λ w. w ++ middle.pending.items) so_far.pending.appended
        ∙ append_assoc a.written so_far.pending.sent middle.pending.items ∙ ap (λ h. a.written ++ h) (sym so_far.pending.held);
  }

  -- a front was sent of what was pending, with what the next line gives behind it or without that
  pub advances-line_front : {bytes rest : List ℕ} {old middle : Progress} {a b c : SinkState} (line behind : List ℕ)
      → Advances parts Answers bytes rest old middle a b → rest ≡ line ++ newline ∷ behind → IsOneLine line
      → LineFront parts Answers (middle.line.items ++ line) middle.pending.items b c → FrontIn parts Answers bytes old a c
  advances-line_front {old = old} {middle = middle} {a = a} {c = c} line behind so_far split one front =
      let long : List ℕ = middle.line.items ++ line in
      let goes_on : PendingGoesOn (so_far.given ++ front.given) old.pending.items front.unsent a c = pending-then so_far.pending front.goes_on in
      let whole = whole-line line behind so_far split in
      elim front.answered [
        | inl none ↦ record {
          lines = so_far.lines;
          each = so_far.each;
          rest = long ++ newline ∷ behind;
          at_front = whole;
          given = so_far.given ++ front.given;
          answered = subst (λ g. LinesGive parts Answers so_far.lines g) (sym (ap (λ g. so_far.given ++ g) none ∙ append-nil so_far.given)) so_far.answered;
          unsent = front.unsent;
          pending = goes_on;
        }
        | inr gives ↦ record {
          lines = so_far.lines ++ long ∷ [];
          each = all-append IsOneLine so_far.lines (long ∷ []) so_far.each (long-line line so_far one, tt);
          rest = behind;
          at_front = whole ∙ ended-next so_far.lines long behind;
          given = so_far.given ++ front.given;
          answered = gives-next parts Answers so_far.lines long so_far.given front.given so_far.answered gives;
          unsent = front.unsent;
          pending = goes_on;
        }
      ]

  -- the next line stops the answers
  pub advances-stops : {bytes rest : List ℕ} {old middle : Progress} {a b : SinkState} (c : SinkState) (line behind : List ℕ) (stop : Stop)
      → Advances parts Answers bytes rest old middle a b → rest ≡ line ++ newline ∷ behind → IsOneLine line
      → LineStops parts Answers (middle.line.items ++ line) middle.number middle.pending.items b c stop
      → StopsIn parts Answers bytes old a c stop
  advances-stops c line behind (Refused number fault) so_far split one stops = advances-refused line behind so_far split one stops
  advances-stops c line behind Output so_far split one stops = advances-line_front line behind so_far split one stops
  advances-stops c line behind Memory so_far split one stops = advances-line_front line behind so_far split one stops
  advances-stops c line behind TooLong so_far split one stops = absurd stops
  advances-stops c line behind Input so_far split one stops = absurd stops

  -- more bytes behind those
  pub advances-append : {bytes more : List ℕ} {one two three : Progress} {a b c : SinkState} → Advances parts Answers bytes [] one two a b
      → Advances parts Answers more [] two three b c → Advances parts Answers (bytes ++ more) [] one three a c
  advances-append {bytes} {more} {one} {two} {three} {a} {b} {c} first next = record {
    lines = first.lines ++ next.lines;
    whole = sym (append_assoc one.line.items bytes more) ∙ ap (λ w. w ++ more) first.whole
        ∙ append_assoc (ended first.lines) (two.line.items ++ []) more
        ∙ ap (λ w. ended first.lines ++ w) (ap (λ l. l ++ more) (append-nil two.line.items) ∙ next.whole)
        ∙ sym (append_assoc (ended first.lines) (ended next.lines) (three.line.items ++ []))
        ∙ ap (λ e. e ++ (three.line.items ++ [])) (sym (ended-append first.lines next.lines));
    each = all-append IsOneLine first.lines next.lines first.each next.each;
    open_line = next.open_line;
    number =
        let before = first.number in
        let after = next.number in
        omega (arith, before, after, length-append first.lines next.lines);
    given = first.given ++ next.given;
    answered = gives-append parts Answers first.lines next.lines first.given next.given first.answered next.answered;
    pending = pending-then first.pending next.pending;
  }

  front-append : {bytes more : List ℕ} {one two : Progress} {a b c : SinkState} → Advances parts Answers bytes [] one two a b
      → FrontIn parts Answers more two b c → FrontIn parts Answers (bytes ++ more) one a c
  front-append {bytes} {more} {one} {two} {a} {b} {c} first next = record {
    lines = first.lines ++ next.lines;
    each = all-append IsOneLine first.lines next.lines first.each next.each;
    rest = next.rest;
    at_front = sym (append_assoc one.line.items bytes more) ∙ ap (λ w. w ++ more) first.whole
        ∙ append_assoc (ended first.lines) (two.line.items ++ []) more
        ∙ ap (λ w. ended first.lines ++ w) (ap (λ l. l ++ more) (append-nil two.line.items) ∙ next.at_front)
        ∙ sym (append_assoc (ended first.lines) (ended next.lines) next.rest)
        ∙ ap (λ e. e ++ next.rest) (sym (ended-append first.lines next.lines));
    given = first.given ++ next.given;
    answered = gives-append parts Answers first.lines next.lines first.given next.given first.answered next.answered;
    unsent = next.unsent;
    pending = pending-then first.pending next.pending;
  }

  refuses-append : {bytes more : List ℕ} {one two : Progress} {a b c : SinkState} {number : ℕ} {fault : WordError} → Advances parts Answers bytes [] one two a b
      → RefusesIn parts Answers more two b c number fault → RefusesIn parts Answers (bytes ++ more) one a c number fault
  refuses-append {bytes} {more} {one} {two} {a} {b} {c} {number} {fault} first next = record {
    lines = first.lines ++ next.lines;
    line = next.line;
    behind = next.behind;
    whole = sym (append_assoc one.line.items bytes more) ∙ ap (λ w. w ++ more) first.whole
        ∙ append_assoc (ended first.lines) (two.line.items ++ []) more
        ∙ ap (λ w. ended first.lines ++ w) (ap (λ l. l ++ more) (append-nil two.line.items) ∙ next.whole)
        ∙ sym (append_assoc (ended first.lines) (ended next.lines ++ next.line) (newline ∷ next.behind))
        ∙ ap (λ e. e ++ newline ∷ next.behind) (sym (append_assoc (ended first.lines) (ended next.lines) next.line)
        ∙ ap (λ e. e ++ next.line) (sym (ended-append first.lines next.lines)));
    each = all-append IsOneLine first.lines next.lines first.each next.each;
    one = next.one;
    counted =
        let before = first.number in
        let after = next.counted in
        omega (arith, before, after, length-append first.lines next.lines);
    given = first.given ++ next.given;
    answered = gives-append parts Answers first.lines next.lines first.given next.given first.answered next.answered;
    faulty = next.faulty;
    sent = next.sent ∙ ap (λ w. w ++ (two.pending.items ++ next.given)) first.pending.appended
        ∙ append_assoc a.written first.pending.sent (two.pending.items ++ next.given)
        ∙ ap (λ h. a.written ++ h) (sym (append_assoc first.pending.sent two.pending.items next.given)
        ∙ ap (λ h. h ++ next.given) (sym first.pending.held) ∙ append_assoc one.pending.items first.given next.given);
  }

  -- a stop among the bytes behind those
  pub stops-append : {bytes : List ℕ} {one two : Progress} {a b : SinkState} (more : List ℕ) (c : SinkState) (stop : Stop) → Advances parts Answers bytes [] one two a b
      → StopsIn parts Answers more two b c stop → StopsIn parts Answers (bytes ++ more) one a c stop
  stops-append more c (Refused number fault) first next = refuses-append first next
  stops-append more c Output first next = front-append first next
  stops-append more c Memory first next = front-append first next
  stops-append more c TooLong first next = absurd next
  stops-append more c Input first next = absurd next
