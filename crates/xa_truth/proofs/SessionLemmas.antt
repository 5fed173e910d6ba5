-- A conducted session is one that is served, and its lines are what the conductor's replies and
-- notes rest on.
use Rattle.std.proofs.Common.{◌≡◌, inl, inr, ℕ, Bool, true, false, List, [], Option, Some, None, subst, sym}
use Rattle.std.proofs.lemmas.Bool.{false≢true, or_cases}
use Rattle.std.specs.List.{list_any}
use Rattle.std.specs.Prelude.{All}
use Rattle.xa_conduct.proofs.BackingLemmas.{all_rest_more, rests_more}
use Rattle.xa_conduct.proofs.MoveLemmas.{paired_weaker}
use Rattle.xa_conduct.specs.Acting.{Acts, done_of}
use Rattle.xa_conduct.specs.Backing.{TransactionRests, was_asked}
use Rattle.xa_conduct.specs.Moves.{parts_of, thread_in}
use Rattle.xa_conduct.specs.Told.{AreReplies, IsReply, IsReplyTo}
use Rattle.xa_conduct.specs.declared.transaction.Transaction.{Transaction}
use Rattle.xa_log.specs.Contract.{Moment}
use Rattle.xa_requests.specs.declared.request.Request.{Request}
use Rattle.xa_requests.specs.declared.response.Response.{Response}
use Rattle.xa_server.specs.NamedLines.{lines_read}
use Rattle.xa_server.specs.Serving.{HaveReplies}
use Rattle.xa_server.specs.Sessions.{ServedSessionsAreSeen, StartsOver}
use Rattle.xa_server.specs.declared.server.Server.{Server}
use Rattle.xa_truth.specs.Outcomes.{was_done}
use Rattle.xa_truth.specs.Sessions.{IsServedWith, NotesAreServed, TurnsAreServed}

-- what was done was asked for by these lines
lines_asked : (done : List Request) (lines : List (List ℕ)) (replies : List Response)
    → ((p : Request → Bool) → list_any p done ≡ true → list_any p (done_of lines replies) ≡ true)
    → (p : Request → Bool) → was_asked done [] p ≡ true → was_done lines replies p ≡ true
lines_asked done lines replies asked p e =
    elim (or_cases (list_any p done) false e) [ inl was ↦ asked p was | inr none ↦ absurd (false≢true none) ]

module _ (asked more : (Request → Bool) → Bool) (keeps : (p : Request → Bool) → asked p ≡ true → more p ≡ true) where
  reply_more : (noted after : List Transaction) (thread : Option ℕ) (text : List ℕ) → IsReply asked noted after thread text → IsReply more noted after thread text
  reply_more noted after (Some t) text (inl tells) =
      inl (record {
        transaction = tells.transaction;
        next = tells.next;
        among = tells.among;
        name = tells.name;
        rests = rests_more asked more keeps tells.transaction tells.rests;
        is = tells.is;
        gives = tells.gives;
      })
  reply_more noted after (Some t) text (inr other) = inr other
  reply_more noted after None text error = error

  replies_more : (noted after : List Transaction) (line text : List ℕ) → AreReplies asked noted after line text → AreReplies more noted after line text
  replies_more noted after line text are = record {
    replies = are.replies;
    are = are.are;
    each =
        paired_weaker (IsReplyTo asked noted after) (IsReplyTo more noted after) (λ part r. reply_more noted after (thread_in part) r) (parts_of line) are.replies are.each;
  }

module _ {L : Type 0} (moment : L → Moment) (seen : ServedSessionsAreSeen moment) where
  session_of : (threads rms : ℕ) (handed : L) (first now : Server L) (done : List Request) (acts : Acts moment done first now)
      (Holds : List (List ℕ) → List Response → Type 0) → StartsOver moment threads rms handed first → Holds acts.lines acts.replies
      → IsServedWith moment threads rms handed first now Holds
  session_of threads rms handed first now done acts Holds starts holds = (
    done,
    (
      acts,
      λ name lines are no_fault o begins.
          let replied : HaveReplies moment (lines_read name lines) acts.replies first now =
          subst (λ (ls : List (List ℕ)). HaveReplies moment ls acts.replies first now) (sym are) acts.replied in
          let found = seen name threads rms lines acts.replies handed first now starts replied no_fault o begins in
          record {
            seen = found.0;
            told = found.1;
            session = record {
              threads = threads;
              rms = rms;
              first = first;
              lines = lines;
              replies = acts.replies;
              starts = starts;
              begins = begins;
              replied = replied;
              no_fault = no_fault;
              told = found.1;
              tracks = found.2.tracks;
            };
            holds = subst (λ (ls : List (List ℕ)). Holds ls acts.replies) (sym are) holds;
          },
    ),
  )

  pub turns_served : TurnsAreServed moment
  turns_served threads rms handed first now old new line text starts conducts turns moves on =
      let turned = turns first conducts in
      let done = turned.0.done in
      let acts = on done first turned.0.acts in
      let noted = old.notes.transactions.items in
      let left = new.notes.transactions.items in
      session_of threads rms handed first now done acts (λ lines replies. AreReplies (was_done lines replies) noted left line text) starts
      (elim turned.1 [
        | inl told ↦
            replies_more (was_asked done []) (was_done acts.lines acts.replies) (lines_asked done acts.lines acts.replies acts.asked) noted left line text told
        | inr none ↦ absurd (moves none)
      ])

  pub notes_served : NotesAreServed moment
  notes_served threads rms handed first now c starts conducts going on =
      let done = conducts.done in
      let acts = on done first conducts.acts in
      session_of threads rms handed first now done acts (λ lines replies. All (TransactionRests (was_done lines replies)) c.notes.transactions.items) starts
      (all_rest_more (was_asked done []) (was_done acts.lines acts.replies) (lines_asked done acts.lines acts.replies acts.asked) c.notes.transactions.items
      (conducts.rest going))
