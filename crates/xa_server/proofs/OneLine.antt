-- One line that is read, and its reply.
use Rattle.std.proofs.Common.{◌≡◌, ◌∙◌, ◌⊎◌, inl, inr, ℕ, Bool, true, false, List, [], ◌∷◌, map, Option, refl, sym, ap, subst, arith, ◌||◌, ◌&&◌, not}
use Rattle.std.specs.Prelude.{MatchBool}
use Rattle.std.proofs.lemmas.Bool.{true≢false}
use Rattle.std.proofs.lemmas.List.{append-nil}
use Rattle.std.specs.Io.KnownBytes.{Appends, Consumes, IsAtEnd, Keeps}
use Rattle.xa_files.specs.Outputs.{AppendsBeginning}
use Rattle.xa_log.specs.Contract.{Moment}
use Rattle.xa_server.proofs.LineLemmas.{appends_none, asks_of, asks_of_kept}
use Rattle.xa_server.proofs.LineLemmas.{kept_none, kept_then_begun, kept_then_written}
use Rattle.xa_server.proofs.TurnLemmas.{TakesTurn, no_turns, one_done, one_turn, takes_turn}
use Rattle.xa_server.specs.Lines.{IsKeptOf, IsWholeLines, ReadsLine, is_nothing, text_lines, with_end}
use Rattle.xa_server.specs.NamedLines.{line_written, text_written}
use Rattle.xa_server.specs.Serving.{AreTurns, EndsAtLastOr, RepliesToLine, is_bye, told_of}
use Rattle.xa_server.specs.ServingLines.{BreaksOff, ServesLine}
use Rattle.xa_server.specs.declared.server.Server.{Server}
use Rattle.xa_server.specs.declared.lines.LineReply.{LineReply}
use Rattle.xa_requests.specs.declared.response.Response.{Response}
use Rattle.xa_server.proofs.TextLines.{cons_is_not_nil, first_line, last_line, whole_line, whole_none}

bye_ends : (reply : Response) (c : Bool) (P : Type 0) → is_bye reply ≡ c → (c ≡ false → P) → EndsAtLastOr (reply ∷ []) P
bye_ends reply true P is otherwise = subst (λ b. MatchBool b (◌≡◌ {A = List Response} [] []) P) (sym is) refl
bye_ends reply false P is otherwise = subst (λ b. MatchBool b (◌≡◌ {A = List Response} [] []) P) (sym is) (otherwise refl)

not_bye_if_on : (is_ended c : Bool) → (is_ended && not c) ≡ true → (c || false) ≡ false
not_bye_if_on true true h = absurd (true≢false (sym h))
not_bye_if_on true false h = refl
not_bye_if_on false c h = absurd (true≢false (sym h))

kept_of_none : (line kept : List ℕ) → IsKeptOf line kept → line ≡ [] → kept ≡ []
kept_of_none [] kept keeps none = keeps.short (omega arith)
kept_of_none (b ∷ bs) kept keeps none = absurd (cons_is_not_nil b bs none)

-- what was written whole was begun
pub wholly_begun : (written all : Option (List ℕ)) (line : List ℕ) → Appends written all line → AppendsBeginning written all line
wholly_begun written all line appends = ([], record { written = line; whole = sym (append-nil line); appends = appends })

module _ {L : Type 0} (moment : L → Moment) (name : List ℕ) where
  -- nothing was written, and nothing done
  pub off_at_once : (unread written all : Option (List ℕ)) (c : Server L) → Keeps written all → BreaksOff moment name unread written all c c
  off_at_once unread written all c keeps = inl (keeps, refl)

  -- the line that was read was done
  line_done : (unread left : Option (List ℕ)) (kept : List ℕ) (is_ended : Bool) (told : LineReply) (a b : Server L)
      → (was : ReadsLine unread left kept is_ended) → RepliesToLine moment (asks_of name kept) a told b → TakesTurn moment name was.line told a b
  line_done unread left kept is_ended told a b was replied =
      takes_turn moment name was.line told a b (subst (λ asks. RepliesToLine moment asks a told b) (asks_of_kept name was.line kept was.keeps) replied)

  -- it is the one line that was read
  only_line : (unread left : Option (List ℕ)) (kept : List ℕ) (is_ended : Bool) → (was : ReadsLine unread left kept is_ended)
      → is_nothing kept is_ended ≡ false → text_lines (with_end was.line is_ended) ≡ was.line ∷ []
  only_line unread left kept true was some = first_line was.line [] was.plain
  only_line unread left kept false was some =
      last_line was.line was.plain (λ none. true≢false
      (subst (λ xs. is_nothing xs false ≡ false) (kept_of_none was.line kept was.keeps none) some))

  turn_lines : (unread left : Option (List ℕ)) (kept : List ℕ) (is_ended : Bool) (told : LineReply) (a b : Server L)
      → (was : ReadsLine unread left kept is_ended) → is_nothing kept is_ended ≡ false → (takes : TakesTurn moment name was.line told a b)
      → AreTurns (text_lines (with_end was.line is_ended)) (takes.turn ∷ [])
  turn_lines unread left kept is_ended told a b was some takes =
      one_turn takes.turn (text_lines (with_end was.line is_ended)) takes.is
      (only_line unread left kept is_ended was some ∙ ap (λ l. l ∷ []) (sym takes.line_is))

  line_is_whole : (unread left : Option (List ℕ)) (kept : List ℕ) (is_ended : Bool) (was : ReadsLine unread left kept is_ended)
      → IsWholeLines (with_end was.line is_ended) ⊎ IsAtEnd left
  line_is_whole unread left kept true was = inl (whole_line was.line was.plain)
  line_is_whole unread left kept false was = inr (was.end refl)

  -- what was written was flushed, and then the reply couldn't be written whole
  pub off_behind : (unread left written mid all : Option (List ℕ)) (kept : List ℕ) (is_ended : Bool) (told : LineReply) (a b : Server L)
      → ReadsLine unread left kept is_ended → is_nothing kept is_ended ≡ false → RepliesToLine moment (asks_of name kept) a told b
      → Keeps written mid → AppendsBeginning mid all (line_written name told) → BreaksOff moment name unread written all a b
  off_behind unread left written mid all kept is_ended told a b was some replied keeps begun =
      let takes = line_done unread left kept is_ended told a b was replied in
      inr (record {
        read = with_end was.line is_ended;
        left = left;
        turn = takes.turn;
        reads = record { consumed = was.consumed; whole = line_is_whole unread left kept is_ended was };
        lines = turn_lines unread left kept is_ended told a b was some takes;
        replied = one_done moment name takes.turn a b takes.replied;
        begun = subst (λ t. AppendsBeginning written all (line_written name t)) (sym takes.told_is)
            (kept_then_begun written mid all (line_written name told) keeps begun);
      })

  -- nothing is left
  pub at_end : (unread left all : Option (List ℕ)) (kept : List ℕ) (is_ended : Bool) (c : Server L) → ReadsLine unread left kept is_ended
      → is_nothing kept is_ended ≡ true → ServesLine moment name unread left all all c c false
  at_end unread left all (b ∷ bs) is_ended c was none = absurd (true≢false (sym none))
  at_end unread left all [] true c was none = absurd (true≢false (sym none))
  at_end unread left all [] false c was none =
      let nothing : was.line ≡ [] = kept_none was.line [] was.keeps refl in
      record {
        read = [];
        turns = [];
        consumed = subst (Consumes unread left) nothing was.consumed;
        lines = no_turns;
        replied = refl;
        appended = appends_none all;
        whole = λ h. whole_none;
        silent = λ h. refl;
        ends = λ h. was.end refl;
      }

  whole_if_on : (unread left : Option (List ℕ)) (kept : List ℕ) (is_ended : Bool) (reply : Response) → (was : ReadsLine unread left kept is_ended)
      → (is_ended && not (is_bye reply)) ≡ true → IsWholeLines (with_end was.line is_ended)
  whole_if_on unread left kept true reply was h = whole_line was.line was.plain
  whole_if_on unread left kept false reply was h = absurd (true≢false (sym h))

  ends_if_over : (unread left : Option (List ℕ)) (kept : List ℕ) (is_ended : Bool) (reply : Response) → (was : ReadsLine unread left kept is_ended)
      → (is_ended && not (is_bye reply)) ≡ false → EndsAtLastOr (reply ∷ []) (IsAtEnd left)
  ends_if_over unread left kept true reply was h =
      bye_ends reply (is_bye reply) (IsAtEnd left) refl (λ no_bye. absurd (true≢false (subst (λ c. not c ≡ false) no_bye h)))
  ends_if_over unread left kept false reply was h = bye_ends reply (is_bye reply) (IsAtEnd left) refl (λ no_bye. was.end refl)

  pub one_line : (unread left written all : Option (List ℕ)) (kept : List ℕ) (is_ended : Bool) (told : LineReply) (a b : Server L)
      → ReadsLine unread left kept is_ended → is_nothing kept is_ended ≡ false → RepliesToLine moment (asks_of name kept) a told b
      → Appends written all (line_written name told) → ServesLine moment name unread left written all a b (is_ended && not (is_bye told.reply))
  one_line unread left written all kept is_ended told a b was some replied appended =
      let takes = line_done unread left kept is_ended told a b was replied in
      let same : takes.turn.reply ≡ told.reply = ap (λ t. t.reply) takes.told_is in
      record {
        read = with_end was.line is_ended;
        turns = takes.turn ∷ [];
        consumed = was.consumed;
        lines = turn_lines unread left kept is_ended told a b was some takes;
        replied = one_done moment name takes.turn a b takes.replied;
        appended = subst (λ t. Appends written all (text_written name (t ∷ []))) (sym takes.told_is)
            (subst (Appends written all) (sym (append-nil (line_written name told))) appended);
        whole = whole_if_on unread left kept is_ended told.reply was;
        silent = λ h. subst (λ r. (is_bye r || false) ≡ false) (sym same) (not_bye_if_on is_ended (is_bye told.reply) h);
        ends = λ h. subst (λ r. EndsAtLastOr (r ∷ []) (IsAtEnd left)) (sym same) (ends_if_over unread left kept is_ended told.reply was h);
      }

-- ** behind a flush

module _ {L : Type 0} (moment : L → Moment) (name : List ℕ) where
  pub served_behind_flush : (unread left written mid all : Option (List ℕ)) (a b : Server L) (goes_on : Bool) → Keeps written mid
      → ServesLine moment name unread left mid all a b goes_on → ServesLine moment name unread left written all a b goes_on
  served_behind_flush unread left written mid all a b goes_on keeps served = record {
    read = served.read;
    turns = served.turns;
    consumed = served.consumed;
    lines = served.lines;
    replied = served.replied;
    appended = kept_then_written written mid all (text_written name (map told_of served.turns)) keeps served.appended;
    whole = served.whole;
    silent = served.silent;
    ends = served.ends;
  }
