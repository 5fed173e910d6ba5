-- Moves and replies at the same place, and that a thread moves once on a line.
use Rattle.std.proofs.Common.{◌≡◌, ◌∙◌, ◌==◌, ℕ, zero, suc, ◌<◌, ◌+◌, Bool, true, false, List, [], ◌∷◌, ◌++◌, ◌≤◌, ap, append_assoc, arith, eq-eqb, get_or, inl, inr, length, map, refl, subst, sym, take}
use Rattle.std.proofs.lemmas.Bool.{cases_Bool, eqb-true, false≢true, le-leb, lt-leb, or_cases, or_from, or_left, or_parts, or_right, true≢false}
use Rattle.std.proofs.lemmas.List.{get_or_default, take_more}
use Rattle.std.proofs.lemmas.List.Folds.{list_any-append, list_any_at, list_any_more}
use Rattle.std.specs.List.{list_any, slice_split}
use Rattle.std.specs.Prelude.{MatchBool, Option, Some, None, if◌then◌else◌, is_some}
use Rattle.xa_base.specs.declared.branch.Gtrid.{Gtrid}
use Rattle.xa_requests.specs.declared.request.Request.{Request}
use Rattle.xa_conduct.proofs.ToldLemmas.{joined_more}
use Rattle.xa_conduct.specs.Moves.{AreMovedOnce, ArePairedInOrder, IsOfThread, IsReadOf, IsReplyOf, is_reply_to, is_told_by, parts_of, thread_in, thread_of}
use Rattle.xa_conduct.specs.Over.{is_all_answered}
use Rattle.xa_conduct.specs.Progress.{AllStep, is_start}
use Rattle.xa_conduct.specs.Told.{AddsText, AreReplies, AreRepliesTold, GivesWay, HasNext, IsReply, IsReplyTo, IsSameAt, IsToldBy, TellsSo, joined_replies}
use Rattle.xa_conduct.specs.declared.moves.Move.{Move}
use Rattle.xa_conduct.specs.declared.notes.Reply.{Reply}
use Rattle.xa_conduct.specs.declared.notes.Reply.TheVariants as replies
use Rattle.xa_conduct.specs.declared.transaction.Transaction.{Transaction}

-- ** what goes with what

pub paired_push : {X Y : Type 0} (AreSo : X → Y → Type 0) (xs : List X) (ys : List Y) (x : X) (y : Y) → ArePairedInOrder AreSo xs ys → AreSo x y
    → ArePairedInOrder AreSo (xs ++ x ∷ []) (ys ++ y ∷ [])
paired_push AreSo [] [] x y all one = (one, tt)
paired_push AreSo [] (b ∷ ys) x y all one = absurd all
paired_push AreSo (a ∷ xs) [] x y all one = absurd all
paired_push AreSo (a ∷ xs) (b ∷ ys) x y all one = (all.0, paired_push AreSo xs ys x y all.1 one)

pub paired_weaker : {X Y : Type 0} (AreSo AreNow : X → Y → Type 0) → ((x : X) (y : Y) → AreSo x y → AreNow x y) → (xs : List X) (ys : List Y)
    → ArePairedInOrder AreSo xs ys → ArePairedInOrder AreNow xs ys
paired_weaker AreSo AreNow all [] [] are = tt
paired_weaker AreSo AreNow all [] (b ∷ ys) are = absurd are
paired_weaker AreSo AreNow all (a ∷ xs) [] are = absurd are
paired_weaker AreSo AreNow all (a ∷ xs) (b ∷ ys) are = (all a b are.0, paired_weaker AreSo AreNow all xs ys are.1)

-- one more is looked at
pub paired_more : {X Y : Type 0} (AreSo : X → Y → Type 0) (xs : List X) (ys now : List Y) (k : ℕ) (d : X) (y : Y) → k < length xs
    → now ≡ ys ++ y ∷ [] → ArePairedInOrder AreSo (take k xs) ys → AreSo (get_or xs k d) y → ArePairedInOrder AreSo (take (k + 1) xs) now
paired_more AreSo xs ys now k d y within is all one =
    subst (λ zs. ArePairedInOrder AreSo (take (k + 1) xs) zs) (sym is)
    (subst (λ zs. ArePairedInOrder AreSo zs (ys ++ y ∷ [])) (sym (take_more xs k d within)) (paired_push AreSo (take k xs) ys (get_or xs k d) y all one))

-- ** parts of a line

-- one more is read
pub read_more : {X : Type 0} (f : X → List ℕ) (xs : List X) (moves now : List (Option Move)) (k : ℕ) (d : X) (asked : Option Move) → k < length xs
    → now ≡ moves ++ asked ∷ [] → ArePairedInOrder IsReadOf (map f (take k xs)) moves → IsReadOf (f (get_or xs k d)) asked
    → ArePairedInOrder IsReadOf (map f (take (k + 1) xs)) now
read_more f xs moves now k d asked within is all one =
    subst (λ (ms : List (Option Move)). ArePairedInOrder IsReadOf (map f (take (k + 1) xs)) ms) (sym is)
    (subst (λ (zs : List (List ℕ)). ArePairedInOrder IsReadOf zs (moves ++ asked ∷ []))
    (sym (ap (map f) (take_more xs k d within) ∙ map_push f (take k xs) (get_or xs k d)))
    (paired_push IsReadOf (map f (take k xs)) moves (f (get_or xs k d)) asked all one))
  where
    map_push : {X : Type 0} (f : X → List ℕ) (xs : List X) (x : X) → map f (xs ++ x ∷ []) ≡ map f xs ++ f x ∷ []
    map_push f [] x = refl
    map_push f (y ∷ ys) x = ap (λ zs. f y ∷ zs) (map_push f ys x)

pub few_parts : (line : List ℕ) (parts : List (List ℕ)) → parts ≡ slice_split (λ c. c == 59) line → length parts ≤ 1024 → parts ≡ parts_of line
unfolding parts_of
few_parts line parts are few =
    let within : length (slice_split (λ c. c == 59) line) ≤ 1024 = subst (λ (ps : List (List ℕ)). length ps ≤ 1024) are few in
    are ∙ sym (ap (λ (b : Bool). if b then slice_split (λ c. c == 59) line else [] ∷ []) (le-leb (length (slice_split (λ c. c == 59) line)) 1024 within))

pub many_parts : (line : List ℕ) (parts : List (List ℕ)) → parts ≡ slice_split (λ c. c == 59) line → 1024 < length parts → [] ∷ [] ≡ parts_of line
unfolding parts_of
many_parts line parts are many =
    let beyond : 1024 < length (slice_split (λ c. c == 59) line) = subst (λ (ps : List (List ℕ)). 1024 < length ps) are many in
    sym (ap (λ (b : Bool). if b then slice_split (λ c. c == 59) line else [] ∷ []) (lt-leb (length (slice_split (λ c. c == 59) line)) 1024 beyond))

pub no_move : (part : List ℕ) → IsReadOf part None
no_move part t is = absurd (cc)

-- ** once

-- no move was taken
pub none_moves : (told : List Reply) (reply : Reply) → ((t : ℕ) → is_reply_to t reply ≡ false) → (t : ℕ) → is_reply_to t reply ≡ true
    → list_any (is_reply_to t) told ≡ false
none_moves told reply none t is = absurd (true≢false (sym is ∙ none t))

-- it moves, and others did
none_with : (t : ℕ) (x y : Reply) (ys : List Reply) → is_reply_to t x ≡ true → (is_reply_to t y ≡ true → list_any (is_reply_to t) (x ∷ ys) ≡ false)
    → is_reply_to t y ≡ false
none_with t x y ys is apart =
    elim (cases_Bool (is_reply_to t y)) [
      | inl also ↦ absurd (true≢false (sym is ∙ (or_parts (is_reply_to t x) (list_any (is_reply_to t) ys) (apart also)).0))
      | inr none ↦ none
    ]

-- one more moves, which hasn't yet
pub once_push : (told : List Reply) (reply : Reply) → AreMovedOnce told → ((t : ℕ) → is_reply_to t reply ≡ true → list_any (is_reply_to t) told ≡ false)
    → AreMovedOnce (told ++ reply ∷ [])
once_push [] reply once apart = (λ t is. refl, tt)
once_push (x ∷ told) reply once apart = (
  λ t is.
      list_any-append (is_reply_to t) told (reply ∷ [])
      ∙ or_from (list_any (is_reply_to t) told) (list_any (is_reply_to t) (reply ∷ [])) (once.0 t is)
      (or_from (is_reply_to t reply) false (none_with t x reply told is (apart t)) refl),
  once_push told reply once.1 (λ t is. (or_parts (is_reply_to t x) (list_any (is_reply_to t) told) (apart t is)).1),
)

-- the reply to a move that was taken is of the thread that moved
pub of_move : (moves : List (Option Move)) (k : ℕ) (item : Option Move) (m : Move) (taken reply : Reply) → item ≡ get_or moves k item → item ≡ Some m
    → reply ≡ taken → IsOfThread (thread_of m) taken → IsReplyOf (get_or moves k item) reply
of_move moves k item m taken reply at is same of =
    subst (λ (o : Option Move). IsReplyOf o reply) at
    (subst (λ (o : Option Move). IsReplyOf o reply) (sym is) (subst (IsOfThread (thread_of m)) (sym same) of))

-- none before the one at this place is of its thread
pub once_at : (told : List Reply) (k t : ℕ) (d : Reply) → AreMovedOnce told → k < length told → is_reply_to t (get_or told k d) ≡ true
    → list_any (is_reply_to t) (take k told) ≡ false
once_at [] k t d once within is = absurd (omega (arith, within))
once_at (x ∷ told) zero t d once within is = refl
once_at (x ∷ told) (suc k) t d once within is =
    let inside : k < length told = omega (arith, within) in
    or_from (is_reply_to t x) (list_any (is_reply_to t) (take k told))
    (elim (cases_Bool (is_reply_to t x)) [
      | inl also ↦ absurd (true≢false (sym (list_any_at (is_reply_to t) told k d inside is) ∙ once.0 t also))
      | inr none ↦ none
    ]) (once_at told k t d once.1 inside is)

thread_is_of : (t : ℕ) (told : List Reply) → list_any (is_told_by t) told ≡ true → list_any (is_reply_to t) told ≡ true
thread_is_of t [] is = absurd (false≢true is)
thread_is_of t (replies.Thread s ∷ told) is =
    elim (or_cases (t == s) (list_any (is_told_by t) told) is) [
      | inl here ↦ or_left (t == s) (list_any (is_reply_to t) told) here
      | inr later ↦ or_right (t == s) (list_any (is_reply_to t) told) (thread_is_of t told later)
    ]
thread_is_of t (replies.Started s g ∷ told) is = or_right (t == s) (list_any (is_reply_to t) told) (thread_is_of t told is)
thread_is_of t (replies.NoMove ∷ told) is = thread_is_of t told is
thread_is_of t (replies.NotNow ∷ told) is = thread_is_of t told is

none_starts : (t : ℕ) (told : List Reply) → list_any (is_reply_to t) told ≡ false → list_any (is_start t) told ≡ false
none_starts t [] none = refl
none_starts t (replies.Thread s ∷ told) none = none_starts t told (or_parts (t == s) (list_any (is_reply_to t) told) none).1
none_starts t (replies.Started s g ∷ told) none =
    let parts = or_parts (t == s) (list_any (is_reply_to t) told) none in or_from (t == s) (list_any (is_start t) told) parts.0 (none_starts t told parts.1)
none_starts t (replies.NoMove ∷ told) none = none_starts t told none
none_starts t (replies.NotNow ∷ told) none = none_starts t told none

-- so none of its transactions began by the same line
pub thread_no_start : (t : ℕ) (told : List Reply) → AreMovedOnce told → list_any (is_told_by t) told ≡ true → list_any (is_start t) told ≡ false
thread_no_start t [] once is = refl
thread_no_start t (replies.Thread s ∷ told) once is =
    elim (or_cases (t == s) (list_any (is_told_by t) told) is) [
      | inl here ↦ none_starts t told (once.0 t here)
      | inr later ↦ thread_no_start t told once.1 later
    ]
thread_no_start t (replies.Started s g ∷ told) once is =
    or_from (t == s) (list_any (is_start t) told)
    (elim (cases_Bool (t == s)) [
      | inl here ↦ absurd (true≢false (sym (thread_is_of t told is) ∙ once.0 t here))
      | inr none ↦ none
    ]) (thread_no_start t told once.1 is)
thread_no_start t (replies.NoMove ∷ told) once is = thread_no_start t told once.1 is
thread_no_start t (replies.NotNow ∷ told) once is = thread_no_start t told once.1 is

-- ** what is told

-- of transactions that have the names of these
abbrev pub HaveNames : (t : ℕ) → List Transaction → List Transaction → Type 0
HaveNames t noted now = (length now ≡ length noted) × ((d : Transaction) → t < length noted → (get_or now t d).gtrid ≡ (get_or noted t d).gtrid)

-- what a line told of a thread it told of the transaction that was there before, as it stood once its move was taken
pub names_kept : (told : List Reply) (ts us : List Transaction) → AreMovedOnce told → AllStep told ts us → (t : ℕ) → list_any (is_told_by t) told ≡ true
    → HaveNames t ts us
names_kept told ts us once steps t is = (steps.count, λ d inside. (steps.each t d inside (thread_no_start t told once is)).same)

tells_names : (asked : (Request → Bool) → Bool) (noted now left : List Transaction) (t : ℕ) (text : List ℕ) → HaveNames t noted now
    → TellsSo asked now left t text → TellsSo asked noted left t text
tells_names asked noted now left t text names tells =
    let within : t < length noted = subst (λ (n : ℕ). t < n) names.0 tells.among in
    record {
      transaction = tells.transaction;
      next = tells.next;
      among = within;
      name = tells.name ∙ names.1 tells.transaction within;
      rests = tells.rests;
      is = tells.is;
      gives = tells.gives;
    }

pub told_names : (asked : (Request → Bool) → Bool) (noted now left : List Transaction) (reply : Reply) (text : List ℕ)
    → ((t : ℕ) → is_told_by t reply ≡ true → HaveNames t noted now) → IsToldBy asked now left reply text → IsToldBy asked noted left reply text
told_names asked noted now left (replies.Thread t) text names told =
    elim told [
      | inl tells ↦ inl (tells_names asked noted now left t text (names t (eq-eqb t t refl)) tells)
      | inr error ↦ inr error
    ]
told_names asked noted now left (replies.Started t g) text names told = told
told_names asked noted now left replies.NoMove text names told = told
told_names asked noted now left replies.NotNow text names told = told

reply_to : (asked : (Request → Bool) → Bool) (noted left : List Transaction) (thread : Option ℕ) (reply : Reply) (text : List ℕ)
    → IsOfThread thread reply → IsToldBy asked noted left reply text → IsReply asked noted left thread text
reply_to asked noted left thread (replies.Thread t) text of told =
    subst (λ (o : Option ℕ). IsReply asked noted left o text) (sym of)
    (elim told [ inl tells ↦ inl tells | inr error ↦ inr (inr (inr error)) ])
reply_to asked noted left thread (replies.Started t g) text of told = subst (λ (o : Option ℕ). IsReply asked noted left o text) (sym of) (inr (inl (g, told)))
reply_to asked noted left None replies.NoMove text of told = inl told
reply_to asked noted left (Some t) replies.NoMove text of told = inr (inr (inl told))
reply_to asked noted left None replies.NotNow text of told = inr told
reply_to asked noted left (Some t) replies.NotNow text of told = inr (inr (inr told))

-- the thread of the move is the one that the part of the line names
of_part : (part : List ℕ) (asked : Option Move) (reply : Reply) → IsReadOf part asked → IsReplyOf asked reply → IsOfThread (thread_in part) reply
of_part part asked (replies.Thread t) read of = read t of
of_part part asked (replies.Started t g) read of = read t of
of_part part asked replies.NoMove read of = tt
of_part part asked replies.NotNow read of = tt

-- each part of a line is replied
pub all_replied : (asked : (Request → Bool) → Bool) (noted now left : List Transaction) (parts : List (List ℕ)) (moves : List (Option Move))
    (told : List Reply) (texts : List (List ℕ)) → ArePairedInOrder IsReadOf parts moves → ArePairedInOrder IsReplyOf moves told
    → ((t : ℕ) → list_any (is_told_by t) told ≡ true → HaveNames t noted now) → ArePairedInOrder (IsToldBy asked now left) told texts
    → ArePairedInOrder (IsReplyTo asked noted left) parts texts
all_replied asked noted now left [] [] [] [] read of names each = tt
all_replied asked noted now left (part ∷ parts) (move ∷ moves) (reply ∷ told) (text ∷ texts) read of names each = (
  reply_to asked noted left (thread_in part) reply text (of_part part move reply read.0 of.0)
      (told_names asked noted now left reply text (λ t is. names t (or_left (is_told_by t reply) (list_any (is_told_by t) told) is)) each.0),
  all_replied asked noted now left parts moves told texts read.1 of.1 (λ t is. names t (or_right (is_told_by t reply) (list_any (is_told_by t) told) is)) each.1,
)
all_replied asked noted now left [] (move ∷ moves) told texts read of names each = absurd read
all_replied asked noted now left (part ∷ parts) [] told texts read of names each = absurd read
all_replied asked noted now left [] [] (reply ∷ told) texts read of names each = absurd of
all_replied asked noted now left (part ∷ parts) (move ∷ moves) [] texts read of names each = absurd of
all_replied asked noted now left [] [] [] (text ∷ texts) read of names each = absurd each
all_replied asked noted now left (part ∷ parts) (move ∷ moves) (reply ∷ told) [] read of names each = absurd each

-- so a line is
pub line_replied : (asked : (Request → Bool) → Bool) (noted now left : List Transaction) (line text : List ℕ) (moves : List (Option Move)) (told : List Reply)
    → ArePairedInOrder IsReadOf (parts_of line) moves → ArePairedInOrder IsReplyOf moves told → AreMovedOnce told → AllStep told noted now → AreRepliesTold asked now left told text
    → AreReplies asked noted left line text
line_replied asked noted now left line text moves told read of once steps tells = record {
  replies = tells.texts;
  are = tells.are;
  each = all_replied asked noted now left (parts_of line) moves told tells.texts read of (names_kept told noted now once steps) tells.each;
}

-- ** one reply behind the other

-- a reply and others, with what parts them
pub record TellsSome (asked : (Request → Bool) → Bool) (noted left : List Transaction) (told : List Reply) (text : List ℕ) : Type 0 where
  pub first : List ℕ
  pub others : List (List ℕ)
  pub are : text ≡ joined_replies (first ∷ others)
  pub each : ArePairedInOrder (IsToldBy asked noted left) told (first ∷ others)

-- none was added yet, or some were
abbrev pub ToldSoFar : ((Request → Bool) → Bool) → (noted left : List Transaction) → List Reply → (is_first : Bool) → List ℕ → Type 0
ToldSoFar asked noted left told is_first text = MatchBool is_first ((told ≡ []) × (text ≡ [])) (TellsSome asked noted left told text)

pub told_more : (asked : (Request → Bool) → Bool) (noted left : List Transaction) (told now : List Reply) (reply : Reply) (is_first : Bool) (a b c : List ℕ)
    → now ≡ told ++ reply ∷ [] → (is_first ≡ true → b ≡ a) → (is_first ≡ false → b ≡ a ++ 59 ∷ []) → ToldSoFar asked noted left told is_first a
    → AddsText (IsToldBy asked noted left reply) b c → TellsSome asked noted left now c
told_more asked noted left told now reply true a b c is first other none more = record {
  first = more.0;
  others = [];
  are = more.1 ∙ ap (λ z. z ++ more.0) (first refl ∙ none.1);
  each =
      subst (λ (rs : List Reply). ArePairedInOrder (IsToldBy asked noted left) rs (more.0 ∷ [])) (sym (is ∙ ap (λ (rs : List Reply). rs ++ reply ∷ []) none.0))
      (more.2, tt);
}
told_more asked noted left told now reply false a b c is first other some more = record {
  first = some.first;
  others = some.others ++ more.0 ∷ [];
  are =
      more.1 ∙ ap (λ z. z ++ more.0) (other refl) ∙ append_assoc a (59 ∷ []) more.0 ∙ ap (λ z. z ++ (59 ∷ more.0)) some.are
      ∙ sym (joined_more some.first some.others more.0);
  each =
      subst (λ (rs : List Reply). ArePairedInOrder (IsToldBy asked noted left) rs (some.first ∷ (some.others ++ more.0 ∷ []))) (sym is)
      (paired_push (IsToldBy asked noted left) told (some.first ∷ some.others) reply more.0 some.each more.2);
}

pub told_all : (asked : (Request → Bool) → Bool) (noted left : List Transaction) (told now : List Reply) (is_first : Bool) (text : List ℕ) → now ≡ told
    → ToldSoFar asked noted left now is_first text → AreRepliesTold asked noted left told text
told_all asked noted left told now true text is none = record {
  texts = [];
  are = none.1;
  each = subst (λ (rs : List Reply). ArePairedInOrder (IsToldBy asked noted left) rs []) (sym none.0 ∙ is) tt;
}
told_all asked noted left told now false text is some = record {
  texts = some.first ∷ some.others;
  are = some.are;
  each = subst (λ (rs : List Reply). ArePairedInOrder (IsToldBy asked noted left) rs (some.first ∷ some.others)) is some.each;
}

-- what is told by a reply of a thread that was told nothing yet is told of its transaction as it was
pub told_as_was : (asked : (Request → Bool) → Bool) (told : List Reply) (k : ℕ) (d : Reply) (was now left : List Transaction) (text : List ℕ)
    → AreMovedOnce told → k < length told → length now ≡ length was → ((t : ℕ) → list_any (is_reply_to t) (take k told) ≡ false → IsSameAt t was now)
    → IsToldBy asked now left (get_or told k d) text → IsToldBy asked was left (get_or told k d) text
told_as_was asked told k d was now left text once within count same is =
    told_names asked was now left (get_or told k d) text
    (λ t of.
    let none = once_at told k t d once within (thread_of_one t (get_or told k d) of) in
    (count, λ e inside. ap (λ (x : Transaction). x.gtrid) (same t none e))) is
  where
    thread_of_one : (t : ℕ) (r : Reply) → is_told_by t r ≡ true → is_reply_to t r ≡ true
    thread_of_one t (replies.Thread s) of = of
    thread_of_one t (replies.Started s g) of = absurd (false≢true of)
    thread_of_one t replies.NoMove of = absurd (false≢true of)
    thread_of_one t replies.NotNow of = absurd (false≢true of)

-- what was told stays so, as long as the thread isn't told more
stays_told : (asked : (Request → Bool) → Bool) (noted left next : List Transaction) (reply : Reply) (text : List ℕ)
    → ((t : ℕ) → is_reply_to t reply ≡ true → IsSameAt t left next) → IsToldBy asked noted left reply text → IsToldBy asked noted next reply text
stays_told asked noted left next (replies.Thread t) text same told =
    elim told [
      | inl tells ↦
          inl (record {
            transaction = tells.transaction;
            next = tells.next;
            among = tells.among;
            name = tells.name;
            rests = tells.rests;
            is = tells.is;
            gives = subst (GivesWay tells.transaction tells.next) (sym (same t (eq-eqb t t refl) tells.transaction)) tells.gives;
          })
      | inr error ↦ inr error
    ]
stays_told asked noted left next (replies.Started t g) text same told = told
stays_told asked noted left next replies.NoMove text same told = told
stays_told asked noted left next replies.NotNow text same told = told

each_stays : (asked : (Request → Bool) → Bool) (noted left next : List Transaction) (told : List Reply) (texts : List (List ℕ))
    → ((t : ℕ) → list_any (is_reply_to t) told ≡ true → IsSameAt t left next) → ArePairedInOrder (IsToldBy asked noted left) told texts
    → ArePairedInOrder (IsToldBy asked noted next) told texts
each_stays asked noted left next [] [] same each = tt
each_stays asked noted left next (reply ∷ told) (text ∷ texts) same each = (
  stays_told asked noted left next reply text (λ t is. same t (or_left (is_reply_to t reply) (list_any (is_reply_to t) told) is)) each.0,
  each_stays asked noted left next told texts (λ t is. same t (or_right (is_reply_to t reply) (list_any (is_reply_to t) told) is)) each.1,
)
each_stays asked noted left next [] (text ∷ texts) same each = absurd each
each_stays asked noted left next (reply ∷ told) [] same each = absurd each

pub told_stays : (asked : (Request → Bool) → Bool) (noted left next : List Transaction) (told : List Reply) (is_first : Bool) (text : List ℕ)
    → ((t : ℕ) → list_any (is_reply_to t) told ≡ true → IsSameAt t left next) → ToldSoFar asked noted left told is_first text
    → ToldSoFar asked noted next told is_first text
told_stays asked noted left next told true text same none = none
told_stays asked noted left next told false text same some = record {
  first = some.first;
  others = some.others;
  are = some.are;
  each = each_stays asked noted left next told (some.first ∷ some.others) same some.each;
}

-- a thread moves once, so what it was told before isn't changed by the reply at this place
pub others_same : (told : List Reply) (k : ℕ) (d : Reply) (now next : List Transaction) → AreMovedOnce told → k < length told
    → ((t : ℕ) → is_reply_to t (get_or told k d) ≡ false → IsSameAt t now next) → (t : ℕ) → list_any (is_reply_to t) (take k told) ≡ true
    → IsSameAt t now next
others_same told k d now next once within others t moved =
    elim (cases_Bool (is_reply_to t (get_or told k d))) [
      | inl is ↦ absurd (true≢false (sym moved ∙ once_at told k t d once within is))
      | inr none ↦ others t none
    ]

-- a name goes with the reply still
name_kept : (reply : Reply) (next : Option Gtrid) (was now : List Transaction) → length now ≡ length was
    → ((t : ℕ) → is_reply_to t reply ≡ true → IsSameAt t was now) → HasNext was reply next → HasNext now reply next
name_kept (replies.Thread t) next was now count same has = λ d inside.
    has d (subst (λ (n : ℕ). t < n) count inside) ∙ ap (λ (x : Transaction). is_all_answered x) (sym (same t (eq-eqb t t refl) d))
name_kept (replies.Started t g) next was now count same has = tt
name_kept replies.NoMove next was now count same has = tt
name_kept replies.NotNow next was now count same has = tt

paired_at : {X Y : Type 0} (AreSo : X → Y → Type 0) (xs : List X) (ys : List Y) (k : ℕ) (d : X) (e : Y) → k < length xs → ArePairedInOrder AreSo xs ys
    → AreSo (get_or xs k d) (get_or ys k e)
paired_at AreSo [] ys k d e within each = absurd (omega (arith, within))
paired_at AreSo (x ∷ xs) [] k d e within each = absurd each
paired_at AreSo (x ∷ xs) (y ∷ ys) zero d e within each = each.0
paired_at AreSo (x ∷ xs) (y ∷ ys) (suc k) d e within each =
    let inside : k < length xs = omega (arith, within) in paired_at AreSo xs ys k d e inside each.1

pub name_at : (told : List Reply) (nexts : List (Option Gtrid)) (k : ℕ) (d : Reply) (was now : List Transaction) → AreMovedOnce told → k < length told
    → ArePairedInOrder (HasNext was) told nexts → length now ≡ length was
    → ((t : ℕ) → list_any (is_reply_to t) (take k told) ≡ false → IsSameAt t was now) → HasNext now (get_or told k d) (get_or nexts k None)
name_at told nexts k d was now once within names count same =
    name_kept (get_or told k d) (get_or nexts k None) was now count (λ t is. same t (once_at told k t d once within is))
    (paired_at (HasNext was) told nexts k d None within names)

-- a name more, for the reply at this place
pub names_more : (told : List Reply) (k : ℕ) (d : Reply) (nexts all : List (Option Gtrid)) (next : Option Gtrid) (ts us : List Transaction)
    → k < length told → us ≡ ts → all ≡ nexts ++ next ∷ [] → ArePairedInOrder (HasNext ts) (take k told) nexts → HasNext us (get_or told k d) next
    → ArePairedInOrder (HasNext ts) (take (k + 1) told) all
names_more told k d nexts all next ts us within same is names one =
    subst (λ (rs : List Reply). ArePairedInOrder (HasNext ts) rs all) (sym (take_more told k d within))
    (subst (ArePairedInOrder (HasNext ts) (take k told ++ get_or told k d ∷ [])) (sym is)
    (paired_push (HasNext ts) (take k told) nexts (get_or told k d) next names
    (subst (λ (xs : List Transaction). HasNext xs (get_or told k d) next) same one)))

-- the name behind a reply of a thread
pub name_of_thread : (ts : List Transaction) (thread : ℕ) (t : Transaction) (next : Option Gtrid) → t ≡ get_or ts thread t
    → is_some next ≡ is_all_answered t → HasNext ts (replies.Thread thread) next
name_of_thread ts thread t next at is = λ d inside. is ∙ ap (λ (x : Transaction). is_all_answered x) (at ∙ get_or_default ts thread t d inside)

-- none of the first ones and not this one
pub same_more : (told : List Reply) (k : ℕ) (d : Reply) (was now next : List Transaction) → k < length told
    → ((t : ℕ) → list_any (is_reply_to t) (take k told) ≡ false → IsSameAt t was now)
    → ((t : ℕ) → is_reply_to t (get_or told k d) ≡ false → IsSameAt t now next) → (t : ℕ) → list_any (is_reply_to t) (take (k + 1) told) ≡ false
    → IsSameAt t was next
same_more told k d was now next within same others t none =
    let parts = or_parts (list_any (is_reply_to t) (take k told)) (is_reply_to t (get_or told k d)) (sym (list_any_more (is_reply_to t) told k d within) ∙ none) in
    λ e. others t parts.1 e ∙ same t parts.0 e
