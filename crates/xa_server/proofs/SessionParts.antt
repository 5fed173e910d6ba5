-- A session in parts, each some lines and their replies.
use Rattle.std.proofs.Common.{◌≡◌, ◌∙◌, ◌⊎◌, inl, inr, ℕ, Bool, true, false, List, [], ◌∷◌, ◌++◌, map, Option, Some, None, refl, sym, ap, subst, append_assoc, ◌||◌}
use Rattle.std.specs.Prelude.{MatchBool}
use Rattle.std.proofs.lemmas.Bool.{true≢false}
use Rattle.std.proofs.lemmas.List.{append-nil, map-append}
use Rattle.std.specs.Io.KnownBytes.{Appends, Consumes, IsAtEnd, Keeps}
use Rattle.std.specs.List.{list_any}
use Rattle.xa_files.proofs.OutputLemmas.{both_written, written_then_kept}
use Rattle.xa_files.specs.Outputs.{AppendsBeginning}
use Rattle.xa_log.specs.Contract.{Moment}
use Rattle.xa_session.proofs.Logging.{both_keep, kept}
use Rattle.xa_server.proofs.LogLemmas.{replies_keep}
use Rattle.xa_server.proofs.LineLemmas.{appends_none, begins_with_all, both_consumed, consumed_none, keeps_all}
use Rattle.xa_server.proofs.TurnLemmas.{HaveTurns, both_done, no_turns, turns_both}
use Rattle.xa_server.specs.Lines.{IsWholeLines, ReadsBeginning, lone_reply, text_lines}
use Rattle.xa_server.specs.NamedLines.{BreaksSessionUnder, InputFailsUnder, ServesUnder, line_written, lines_read, text_written}
use Rattle.xa_server.specs.Serving.{AreTurns, EndsAtLastOr, Turn, WritesUpToLast, is_bye, replies_given, requests_done, told_in, told_of}
use Rattle.xa_server.specs.ServingLines.{BreaksOff, FindsNoLine, LosesReply, ServesLine}
use Rattle.xa_server.specs.declared.server.Server.{Server}
use Rattle.xa_server.specs.declared.lines.LineReply.{LineReply}
use Rattle.xa_requests.specs.declared.response.Response.{Response}
use Rattle.xa_server.proofs.TextLines.{whole_both, whole_none}

pub text_of_both : (name : List ℕ) (rs ss : List LineReply) → text_written name (rs ++ ss) ≡ text_written name rs ++ text_written name ss
text_of_both name [] ss = refl
text_of_both name (r ∷ rs) ss =
    ap (λ t. line_written name r ++ t) (text_of_both name rs ss)
    ∙ sym (append_assoc (line_written name r) (text_written name rs) (text_written name ss))

-- none of these ends the session, so that those behind them do
pub ends_behind : (rs ss : List Response) (P : Type 0) → list_any is_bye rs ≡ false → EndsAtLastOr ss P → EndsAtLastOr (rs ++ ss) P
ends_behind [] ss P silent ends = ends
ends_behind (r ∷ rs) ss P silent ends = by_test (is_bye r) silent (λ rest. ends_behind rs ss P rest ends)
  where
    by_test : (c : Bool) → (c || list_any is_bye rs) ≡ false → (list_any is_bye rs ≡ false → EndsAtLastOr (rs ++ ss) P)
        → MatchBool c (rs ++ ss ≡ []) (EndsAtLastOr (rs ++ ss) P)
    by_test true h on = absurd (true≢false h)
    by_test false h on = on h

pub silent_both : (rs ss : List Response) → list_any is_bye rs ≡ false → list_any is_bye ss ≡ false → list_any is_bye (rs ++ ss) ≡ false
silent_both [] ss first second = second
silent_both (r ∷ rs) ss first second = by_test (is_bye r) first (λ rest. silent_both rs ss rest second)
  where
    by_test : (c : Bool) → (c || list_any is_bye rs) ≡ false → (list_any is_bye rs ≡ false → list_any is_bye (rs ++ ss) ≡ false)
        → (c || list_any is_bye (rs ++ ss)) ≡ false
    by_test true h on = absurd (true≢false h)
    by_test false h on = on h

-- ** a session in parts

-- what is written by both
texts : (name : List ℕ) (greeting : Response) (written mid all : Option (List ℕ)) (ts us : List Turn)
    → Appends written mid (text_written name (told_in greeting ts)) → Appends mid all (text_written name (map told_of us))
    → Appends written all (text_written name (told_in greeting (ts ++ us)))
texts name greeting written mid all ts us first second =
    subst (Appends written all)
    (sym (text_of_both name (told_in greeting ts) (map told_of us))
    ∙ ap (λ more. text_written name (lone_reply greeting ∷ more)) (sym (map-append told_of ts us)))
    (both_written written mid all (text_written name (told_in greeting ts)) (text_written name (map told_of us)) first second)

-- what was written whole, in two parts
written_in_two : (written all : Option (List ℕ)) (bs cs : List ℕ) → Appends written all (bs ++ cs)
    → (between : Option (List ℕ)) × Appends written between bs × Appends between all cs
written_in_two None all bs cs appended = (None, tt, tt)
written_in_two (Some xs) None bs cs appended = absurd appended
written_in_two (Some xs) (Some ys) bs cs appended = (Some (xs ++ bs), refl, appended ∙ sym (append_assoc xs bs cs))

with_last : (r : LineReply) (rs : List LineReply) → (others : List LineReply) × (last : LineReply) × (r ∷ rs ≡ others ++ last ∷ [])
with_last r [] = ([], r, refl)
with_last r (s ∷ rs) = let rest = with_last s rs in (r ∷ rest.0, rest.1, ap (λ xs. r ∷ xs) rest.2)

pub all_written : (name : List ℕ) (written all : Option (List ℕ)) (r : LineReply) (rs : List LineReply)
    → Appends written all (text_written name (r ∷ rs)) → WritesUpToLast (line_written name) written all (r ∷ rs)
all_written name written all r rs appended =
    let parts = with_last r rs in
    let last = parts.1 ∷ [] in
    let two = written_in_two written all (text_written name parts.0) (text_written name last)
    (subst (Appends written all) (ap (text_written name) parts.2 ∙ text_of_both name parts.0 last) appended) in
    record {
      others = parts.0;
      last = parts.1;
      are = parts.2;
      between = two.0;
      appended = two.1;
      begun = begins_with_all two.0 all (line_written name parts.1) (subst (Appends two.0 all) (append-nil (line_written name parts.1)) two.2);
    }

whole_or_end : (read more : List ℕ) (left : Option (List ℕ)) → IsWholeLines read → IsWholeLines more ⊎ IsAtEnd left
    → IsWholeLines (read ++ more) ⊎ IsAtEnd left
whole_or_end read more left first (inl second) = inl (whole_both read more first second)
whole_or_end read more left first (inr end) = inr end

-- Some lines were served behind the first line of the session, and it goes on.
module _ {L : Type 0} (moment : L → Moment) where
  pub record ServesSome (name : List ℕ) (greeting : Response) (unread left : Option (List ℕ)) (written all : Option (List ℕ))
      (old new : Server L) : Type 0 where
    pub read : List ℕ
    pub turns : List Turn
    pub consumed : Consumes unread left read
    pub lines : AreTurns (text_lines read) turns
    pub replied : HaveTurns moment name turns old new
    pub appended : Appends written all (text_written name (told_in greeting turns))
    pub whole : IsWholeLines read
    pub silent : list_any is_bye (map (λ turn. turn.reply) turns) ≡ false

module _ {L : Type 0} (moment : L → Moment) (name : List ℕ) (greeting : Response) where
  pub greeted : (unread : Option (List ℕ)) (written all : Option (List ℕ)) (c : Server L) → Appends written all (line_written name (lone_reply greeting))
      → ServesSome moment name greeting unread unread written all c c
  greeted unread written all c appended = record {
    read = [];
    turns = [];
    consumed = consumed_none unread unread (keeps_all unread);
    lines = no_turns;
    replied = refl;
    appended = subst (Appends written all) (sym (append-nil (line_written name (lone_reply greeting)))) appended;
    whole = whole_none;
    silent = refl;
  }

  pub one_more : (unread part left written mid all : Option (List ℕ)) (a b c : Server L) → ServesSome moment name greeting unread part written mid a b
      → ServesLine moment name part left mid all b c true → ServesSome moment name greeting unread left written all a c
  one_more unread part left written mid all a b c some next = record {
    read = some.read ++ next.read;
    turns = some.turns ++ next.turns;
    consumed = both_consumed unread part left some.read next.read some.consumed next.consumed;
    lines = turns_both (text_lines some.read) (text_lines next.read) (text_lines (some.read ++ next.read)) some.turns next.turns some.lines next.lines
        (some.whole next.read);
    replied = both_done moment name some.turns next.turns a b c some.replied next.replied;
    appended = texts name greeting written mid all some.turns next.turns some.appended next.appended;
    whole = whole_both some.read next.read some.whole (next.whole refl);
    silent = subst (λ rs. list_any is_bye rs ≡ false) (sym (map-append (λ turn. turn.reply) some.turns next.turns))
        (silent_both (map (λ turn. turn.reply) some.turns) (map (λ turn. turn.reply) next.turns) some.silent (next.silent refl));
  }

  -- one line more, behind which it ends
  pub the_last : (unread part left written mid all : Option (List ℕ)) (a b c : Server L) → ServesSome moment name greeting unread part written mid a b
      → ServesLine moment name part left mid all b c false → ServesUnder moment name greeting unread left written all a c
  the_last unread part left written mid all a b c some next = record {
    read = some.read ++ next.read;
    turns = some.turns ++ next.turns;
    consumed = both_consumed unread part left some.read next.read some.consumed next.consumed;
    lines = turns_both (text_lines some.read) (text_lines next.read) (text_lines (some.read ++ next.read)) some.turns next.turns some.lines next.lines
        (some.whole next.read);
    replied = both_done moment name some.turns next.turns a b c some.replied next.replied;
    appended = texts name greeting written mid all some.turns next.turns some.appended next.appended;
    ends = subst (λ rs. EndsAtLastOr rs (IsAtEnd left)) (sym (map-append (λ turn. turn.reply) some.turns next.turns))
        (ends_behind (map (λ turn. turn.reply) some.turns) (map (λ turn. turn.reply) next.turns) (IsAtEnd left) some.silent (next.ends refl));
    keeps = both_keep moment a.session.manager b.session.manager c.session.manager
        (replies_keep moment (lines_read name (requests_done some.turns)) (replies_given some.turns) a b some.replied)
        (replies_keep moment (lines_read name (requests_done next.turns)) (replies_given next.turns) b c next.replied);
  }

  -- the first line couldn't be written
  pub not_greeted : (unread written all : Option (List ℕ)) (c : Server L) → AppendsBeginning written all (line_written name (lone_reply greeting))
      → BreaksSessionUnder moment name greeting unread written all c c
  not_greeted unread written all c begun = record {
    read = [];
    left = unread;
    turns = [];
    reads = record { consumed = consumed_none unread unread (keeps_all unread); whole = inl whole_none };
    lines = no_turns;
    replied = refl;
    writes = record { others = []; last = lone_reply greeting; are = refl; between = written; appended = appends_none written; begun = begun };
    keeps = kept moment c.session.manager;
  }

  -- it was broken off after some lines
  pub no_more : (unread part written all : Option (List ℕ)) (a b : Server L) → ServesSome moment name greeting unread part written all a b
      → BreaksSessionUnder moment name greeting unread written all a b
  no_more unread part written all a b some = record {
    read = some.read;
    left = part;
    turns = some.turns;
    reads = record { consumed = some.consumed; whole = inl some.whole };
    lines = some.lines;
    replied = some.replied;
    writes = all_written name written all (lone_reply greeting) (map told_of some.turns) some.appended;
    keeps = replies_keep moment (lines_read name (requests_done some.turns)) (replies_given some.turns) a b some.replied;
  }

  -- the reply to one line more wasn't written whole
  reply_lost : (unread part written mid all : Option (List ℕ)) (a b c : Server L) → ServesSome moment name greeting unread part written mid a b
      → LosesReply moment name part mid all b c → BreaksSessionUnder moment name greeting unread written all a c
  reply_lost unread part written mid all a b c some loses =
      record {
        read = some.read ++ loses.read;
        left = loses.left;
        turns = some.turns ++ loses.turn ∷ [];
        reads = record {
          consumed = both_consumed unread part loses.left some.read loses.read some.consumed loses.reads.consumed;
          whole = whole_or_end some.read loses.read loses.left some.whole loses.reads.whole;
        };
        lines = turns_both (text_lines some.read) (text_lines loses.read) (text_lines (some.read ++ loses.read)) some.turns (loses.turn ∷ []) some.lines
            loses.lines
            (some.whole loses.read);
        replied = both_done moment name some.turns (loses.turn ∷ []) a b c some.replied loses.replied;
        writes = record {
          others = told_in greeting some.turns;
          last = told_of loses.turn;
          are = ap (λ more. lone_reply greeting ∷ more) (map-append told_of some.turns (loses.turn ∷ []));
          between = mid;
          appended = some.appended;
          begun = loses.begun;
        };
        keeps = both_keep moment a.session.manager b.session.manager c.session.manager
            (replies_keep moment (lines_read name (requests_done some.turns)) (replies_given some.turns) a b some.replied)
            (replies_keep moment (lines_read name (requests_done (loses.turn ∷ []))) (replies_given (loses.turn ∷ [])) b c loses.replied);
      }

  -- what was written was flushed then
  flushed : (unread part written mid all : Option (List ℕ)) (a b : Server L) → ServesSome moment name greeting unread part written mid a b
      → Keeps mid all → ServesSome moment name greeting unread part written all a b
  flushed unread part written mid all a b some keeps = record {
    read = some.read;
    turns = some.turns;
    consumed = some.consumed;
    lines = some.lines;
    replied = some.replied;
    appended = written_then_kept written mid all (text_written name (told_in greeting some.turns)) some.appended keeps;
    whole = some.whole;
    silent = some.silent;
  }

  pub broken_off : (unread part written mid all : Option (List ℕ)) (a b c : Server L) → ServesSome moment name greeting unread part written mid a b
      → BreaksOff moment name part mid all b c → BreaksSessionUnder moment name greeting unread written all a c
  broken_off unread part written mid all a b c some (inl none) =
      subst (λ x. BreaksSessionUnder moment name greeting unread written all a x) (sym none.1)
      (no_more unread part written all a b (flushed unread part written mid all a b some none.0))
  broken_off unread part written mid all a b c some (inr loses) = reply_lost unread part written mid all a b c some loses

  -- the input failed behind some lines
  pub input_failed : (unread part left written all : Option (List ℕ)) (a b : Server L) → ServesSome moment name greeting unread part written all a b
      → ReadsBeginning part left → InputFailsUnder moment name greeting unread left written all a b
  input_failed unread part left written all a b some next = record {
    read = some.read;
    behind = part;
    turns = some.turns;
    consumed = some.consumed;
    whole = some.whole;
    next = next;
    lines = some.lines;
    replied = some.replied;
    appended = some.appended;
  }

  pub no_line_found : (unread part left written mid all : Option (List ℕ)) (a b c : Server L)
      → ServesSome moment name greeting unread part written mid a b → FindsNoLine part left mid all b c
      → InputFailsUnder moment name greeting unread left written all a c
  no_line_found unread part left written mid all a b c some none =
      subst (λ x. InputFailsUnder moment name greeting unread left written all a x) (sym none.same)
      (input_failed unread part left written all a b (flushed unread part written mid all a b some none.keeps) none.begun)
