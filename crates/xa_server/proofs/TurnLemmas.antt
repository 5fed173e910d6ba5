-- The requests of a line, in turn.
use Rattle.std.proofs.Common.{◌≡◌, ◌∙◌, ◌⊎◌, inl, inr, ◌≤◌, ◌<◌, ◌+◌, ℕ, zero, suc, true, false, List, [], ◌∷◌, ◌++◌, map, length, get_or, take, drop, Option, refl, sym, ap, subst, arith, ◌||◌}
use Rattle.std.proofs.Common.{add-one, drop-cons, drop_of_length-le, length-append}
use Rattle.std.proofs.lemmas.Grind.{flat_map-append}
use Rattle.std.proofs.lemmas.List.{append-nil, map-append}
use Rattle.std.proofs.lemmas.List.Elements.{All-append, All-cons, All-nil}
use Rattle.std.specs.List.{list_any}
use Rattle.xa_log.specs.Contract.{Moment}
use Rattle.xa_server.proofs.LineLemmas.{asks_of}
use Rattle.xa_server.specs.Lines.{asked_in, lone_reply, requests_in}
use Rattle.xa_server.specs.NamedLines.{line_read, lines_read}
use Rattle.xa_server.specs.Serving.{AreTurns, HaveReplies, IsTurn, RepliesBy, RepliesInTurn, RepliesToLine, Turn, ends_line, replies_given, replies_of, requests_done, requests_of, told_of}
use Rattle.xa_server.specs.declared.server.Server.{Server}
use Rattle.xa_server.specs.declared.lines.LineReply.{LineReply}
use Rattle.xa_requests.specs.declared.request.Request.{Request}
use Rattle.xa_requests.specs.declared.response.Response.{Response}

-- ** one request more

module _ {L : Type 0} (moment : L → Moment) where
  -- So far these were done in turn: the last was replied so, those before it so, and so much is left.
  abbrev pub RepliesSoFar : List (Option Request) → (before : List Response) → (old : Server L) → Response → (new : Server L)
      → (left : List (Option Request)) → Type 0
  RepliesSoFar [] before old reply new left = ⊥
  RepliesSoFar (asked ∷ others) [] old reply new left = RepliesBy moment asked old reply new × (others ≡ left)
  RepliesSoFar (asked ∷ others) (first ∷ before) old reply new left =
      (ends_line first ≡ false) × ((mid : Server L) × RepliesBy moment asked old first mid × RepliesSoFar others before mid reply new left)

  pub one_request_more : (asked : List (Option Request)) (before : List Response) (next : Option Request) (left : List (Option Request))
      (old now new : Server L) (reply more : Response) → RepliesSoFar asked before old reply now (next ∷ left) → ends_line reply ≡ false
      → RepliesBy moment next now more new → RepliesSoFar asked (before ++ reply ∷ []) old more new left
  one_request_more [] before next left old now new reply more so_far on does = absurd so_far
  one_request_more (q ∷ qs) [] next left old now new reply more so_far on does =
      (on, (now, so_far.0, subst (λ others. RepliesSoFar others [] now more new left) (sym so_far.1) (does, refl)))
  one_request_more (q ∷ qs) (first ∷ before) next left old now new reply more so_far on does =
      (so_far.0, (so_far.1.0, so_far.1.1, one_request_more qs before next left so_far.1.0 now new reply more so_far.1.2 on does))

  pub no_request_more : (asked : List (Option Request)) (before : List Response) (left : List (Option Request)) (old new : Server L) (reply : Response)
      → RepliesSoFar asked before old reply new left → (left ≡ []) ⊎ (ends_line reply ≡ true) → RepliesInTurn moment asked before old reply new
  no_request_more [] before left old new reply so_far over = absurd so_far
  no_request_more (q ∷ qs) [] left old new reply so_far over = (so_far.0, subst (λ others. (others ≡ []) ⊎ (ends_line reply ≡ true)) (sym so_far.1) over)
  no_request_more (q ∷ qs) (first ∷ before) left old new reply so_far over =
      (so_far.0, (so_far.1.0, so_far.1.1, no_request_more qs before left so_far.1.0 new reply so_far.1.2 over))

  -- what was asked for is done up to a place, and the line would be replied so
  abbrev pub HasReplied : (asked others : List (Option Request)) (i : ℕ) → LineReply → (old now : Server L) → Type 0
  HasReplied asked others i told old now =
      (before : List Response) × (length before ≡ told.before) × RepliesSoFar asked before old told.reply now (drop i others)

  pub first_is_done : (asked : List (Option Request)) (first : Option Request) (others : List (Option Request)) (old now : Server L) (reply : Response)
      → asked ≡ first ∷ others → RepliesBy moment first old reply now → HasReplied asked others 0 (lone_reply reply) old now
  first_is_done asked first others old now reply is does =
      ([], refl, subst (λ all. RepliesSoFar all [] old reply now others) (sym is) (does, refl))

  pub next_is_done : (asked others : List (Option Request)) (i : ℕ) (d : Option Request) (told next : LineReply) (old now new : Server L)
      → i < length others → HasReplied asked others i told old now → ends_line told.reply ≡ false → RepliesBy moment (get_or others i d) now next.reply new
      → next.before ≡ told.before + 1 → HasReplied asked others (i + 1) next old new
  next_is_done asked others i d told next old now new within so_far on does count =
      let step : drop i others ≡ get_or others i d ∷ drop (i + 1) others = rw (add-one, drop-cons others i d) in (
        so_far.0 ++ told.reply ∷ [],
        length-append so_far.0 (told.reply ∷ []) ∙ ap (λ n. n + 1) so_far.1 ∙ sym count,
        one_request_more asked so_far.0 (get_or others i d) (drop (i + 1) others) old now new told.reply next.reply
            (subst (RepliesSoFar asked so_far.0 old told.reply now) step so_far.2) on does,
      )

  pub refused_there : (asked others : List (Option Request)) (i : ℕ) (told : LineReply) (old now : Server L) → HasReplied asked others i told old now
      → ends_line told.reply ≡ true → RepliesToLine moment asked old told now
  refused_there asked others i told old now so_far ends =
      (so_far.0, so_far.1, no_request_more asked so_far.0 (drop i others) old now told.reply so_far.2 (inr ends))

  pub all_are_done : (asked others : List (Option Request)) (i : ℕ) (told : LineReply) (old now : Server L) → length others ≤ i
      → HasReplied asked others i told old now → RepliesToLine moment asked old told now
  all_are_done asked others i told old now past so_far =
      (so_far.0, so_far.1, no_request_more asked so_far.0 (drop i others) old now told.reply so_far.2 (inl (drop_of_length-le others past)))

-- ** a line

pub nothing_is_left : {A B : Type 0} (f : A → B) (xs : List A) → map f xs ≡ [] → xs ≡ []
nothing_is_left f [] none = refl
nothing_is_left f (x ∷ xs) none = absurd (cc)

module _ {L : Type 0} (moment : L → Moment) (name : List ℕ) where
  asks : List (List ℕ) → List (Option Request)
  asks requests = map (λ request. asked_in (line_read name request)) requests

  -- the requests that were done or refused have these replies
  in_turn : (requests : List (List ℕ)) (before : List Response) (old new : Server L) (reply : Response)
      → RepliesInTurn moment (asks requests) before old reply new
      → HaveReplies moment (lines_read name (take (suc (length before)) requests)) (before ++ reply ∷ []) old new
  unfolding asks
  in_turn [] before old new reply replied = absurd replied
  in_turn (r ∷ rs) [] old new reply replied = (new, replied.0, refl)
  in_turn (r ∷ rs) (first ∷ before) old new reply replied = (replied.1.0, replied.1.1, in_turn rs before replied.1.0 new reply replied.1.2)

  none_ends : (requests : List (List ℕ)) (before : List Response) (old new : Server L) (reply : Response)
      → RepliesInTurn moment (asks requests) before old reply new → list_any ends_line before ≡ false
  unfolding asks
  none_ends [] before old new reply replied = absurd replied
  none_ends (r ∷ rs) [] old new reply replied = refl
  none_ends (r ∷ rs) (first ∷ before) old new reply replied =
      ap (λ b. b || list_any ends_line before) replied.0 ∙ none_ends rs before replied.1.0 new reply replied.1.2

  to_end : (requests : List (List ℕ)) (before : List Response) (old new : Server L) (reply : Response)
      → RepliesInTurn moment (asks requests) before old reply new → (length requests ≡ suc (length before)) ⊎ (ends_line reply ≡ true)
  unfolding asks
  to_end [] before old new reply replied = absurd replied
  to_end (r ∷ rs) [] old new reply replied = by_end replied.1
    where
      by_end : (asks rs ≡ []) ⊎ (ends_line reply ≡ true) → (length (r ∷ rs) ≡ suc zero) ⊎ (ends_line reply ≡ true)
      by_end (inl none) = inl (ap (λ xs. length (r ∷ xs)) (nothing_is_left _ rs none))
      by_end (inr ends) = inr ends
  to_end (r ∷ rs) (first ∷ before) old new reply replied = by_end (to_end rs before replied.1.0 new reply replied.1.2)
    where
      by_end : (length rs ≡ suc (length before)) ⊎ (ends_line reply ≡ true) → (length (r ∷ rs) ≡ suc (length (first ∷ before))) ⊎ (ends_line reply ≡ true)
      by_end (inl whole) = inl (ap (λ n. suc n) whole)
      by_end (inr ends) = inr ends

  -- A line was done so.
  pub record TakesTurn (line : List ℕ) (told : LineReply) (old new : Server L) : Type 0 where
    pub turn : Turn
    pub line_is : turn.line ≡ line
    pub told_is : told_of turn ≡ told
    pub is : IsTurn turn
    pub replied : HaveReplies moment (lines_read name (requests_of turn)) (replies_of turn) old new

  pub takes_turn : (line : List ℕ) (told : LineReply) (old new : Server L) → RepliesToLine moment (asks_of name line) old told new
      → TakesTurn line told old new
  unfolding asks
  takes_turn line told old new replied =
      let before = replied.0 in
      record {
        turn = record { line = line; before = before; reply = told.reply };
        line_is = refl;
        told_is = ap (λ n. let told_so : LineReply = record { before = n; reply = told.reply } in told_so) replied.1;
        is = record {
          done = none_ends (requests_in line) before old new told.reply replied.2;
          whole = to_end (requests_in line) before old new told.reply replied.2;
        };
        replied = in_turn (requests_in line) before old new told.reply replied.2;
      }

-- ** lines

pub turns_both : (ls ms all : List (List ℕ)) (ts us : List Turn) → AreTurns ls ts → AreTurns ms us → all ≡ ls ++ ms → AreTurns all (ts ++ us)
turns_both ls ms all ts us first second is = record {
  are = map-append (λ turn. turn.line) ts us ∙ ap (λ xs. xs ++ map (λ turn. turn.line) us) first.are ∙ ap (λ ys. ls ++ ys) second.are ∙ sym is;
  each = All-append IsTurn ts us first.each second.each;
}

pub no_turns : AreTurns [] []
no_turns = record { are = refl; each = All-nil IsTurn }

pub one_turn : (turn : Turn) (lines : List (List ℕ)) → IsTurn turn → lines ≡ turn.line ∷ [] → AreTurns lines (turn ∷ [])
one_turn turn lines is are = record { are = sym are; each = All-cons IsTurn turn [] is (All-nil IsTurn) }

module _ {L : Type 0} (moment : L → Moment) (name : List ℕ) where
  pub both_replied : (ls : List (List ℕ)) (rs : List Response) (ms : List (List ℕ)) (ss : List Response) (a b c : Server L)
      → HaveReplies moment ls rs a b → HaveReplies moment ms ss b c → HaveReplies moment (ls ++ ms) (rs ++ ss) a c
  both_replied [] [] ms ss a b c first second = subst (λ x. HaveReplies moment ms ss x c) first second
  both_replied [] (r ∷ rs) ms ss a b c first second = absurd first
  both_replied (l ∷ ls) [] ms ss a b c first second = absurd first
  both_replied (l ∷ ls) (r ∷ rs) ms ss a b c first second = (first.0, first.1, both_replied ls rs ms ss first.0 b c first.2 second)

  -- so many lines were done, each as it is meant
  abbrev pub HaveTurns : List Turn → (old new : Server L) → Type 0
  HaveTurns turns old new = HaveReplies moment (lines_read name (requests_done turns)) (replies_given turns) old new

  pub both_done : (ts us : List Turn) (a b c : Server L) → HaveTurns ts a b → HaveTurns us b c → HaveTurns (ts ++ us) a c
  both_done ts us a b c first second =
      subst (λ rs. HaveReplies moment (lines_read name (requests_done (ts ++ us))) rs a c) (sym (flat_map-append replies_of ts us))
      (subst (λ ls. HaveReplies moment ls (replies_given ts ++ replies_given us) a c)
      (sym (ap (lines_read name) (flat_map-append requests_of ts us) ∙ map-append (line_read name) (requests_done ts) (requests_done us)))
      (both_replied (lines_read name (requests_done ts)) (replies_given ts) (lines_read name (requests_done us)) (replies_given us) a b c first second))

  pub one_done : (turn : Turn) (old new : Server L) → HaveReplies moment (lines_read name (requests_of turn)) (replies_of turn) old new
      → HaveTurns (turn ∷ []) old new
  one_done turn old new replied =
      subst (λ rs. HaveReplies moment (lines_read name (requests_done (turn ∷ []))) rs old new) (sym (append-nil (replies_of turn)))
      (subst (λ ls. HaveReplies moment (lines_read name ls) (replies_of turn) old new) (sym (append-nil (requests_of turn))) replied)

-- ** lines and their replies, in two parts

pub split_replies : {L : Type 0} (moment : L → Moment) (ls ms : List (List ℕ)) (rs ss : List Response) (a c : Server L) → length ls ≡ length rs
    → HaveReplies moment (ls ++ ms) (rs ++ ss) a c → (b : Server L) × HaveReplies moment ls rs a b × HaveReplies moment ms ss b c
split_replies moment [] ms [] ss a c same have = (a, refl, have)
split_replies moment [] ms (r ∷ rs) ss a c same have = absurd (cc)
split_replies moment (l ∷ ls) ms [] ss a c same have = absurd (cc)
split_replies moment (l ∷ ls) ms (r ∷ rs) ss a c same (next, replied, more) =
    let rest = split_replies moment ls ms rs ss next c (let one : length ls ≡ length rs = omega (arith, same) in one) more in
    (rest.0, (next, replied, rest.1), rest.2)
