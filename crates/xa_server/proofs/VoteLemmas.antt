-- Votes that are told, and what the book recalls of them.
use Rattle.std.proofs.Common.{◌≡◌, ◌∙◌, ◌⊎◌, inl, inr, ℕ, Bool, true, false, ◌&&◌, ◌||◌, List, [], ◌∷◌, Option, Some, None, refl, sym, ap, subst}
use Rattle.std.specs.Option.{option_and_then, option_map}
use Rattle.std.specs.Prelude.{if◌then◌else◌, slice_get, MatchBool, Result, Ok, Err}
use Rattle.std.proofs.lemmas.Bool.{true≢false, and_parts, or_left, or_right}
use Rattle.xa_base.proofs.BranchKeys.{gtrid_eq-refl, gtrid_eq-true}
use Rattle.xa_base.proofs.XidOrder.{xid_eq-same}
use Rattle.xa_base.specs.Answer.{answer_number, map_answer}
use Rattle.xa_base.specs.Call.{are_alike, kind_of, xid_in}
use Rattle.xa_base.specs.Branch.{branch_of_xid, gtrid_eq}
use Rattle.xa_base.specs.Xid.{Xid}
use Rattle.xa_base.specs.declared.answer.Answer.{Answer}
use Rattle.xa_base.specs.declared.answer.Answer.TheVariants.{Ret}
use Rattle.xa_base.specs.declared.branch.Branch.{Branch}
use Rattle.xa_base.specs.declared.branch.Gtrid.{Gtrid}
use Rattle.xa_base.specs.declared.call.Call.{Call}
use Rattle.xa_base.specs.declared.call.Call.TheVariants as Calls
use Rattle.xa_base.specs.declared.call.CallKind.{CallKind}
use Rattle.xa_base.specs.declared.call.CallKind.TheVariants as Kinds
use Rattle.xa_base.specs.declared.code.Code.TheVariants.{Success}
use Rattle.xa_server.proofs.KnownCalls.{known_first, named_first}
use Rattle.xa_server.specs.Calls.{PerformsAnswer, answer_reply, are_same, is_to, waits_for_other}
use Rattle.xa_session.specs.Steps.{Hears}
use Rattle.xa_server.specs.Lines.{asked_in}
use Rattle.xa_server.specs.Releasing.{ReleasesAll, transaction_of}
use Rattle.xa_server.specs.Rows.{is_gtrid_among}
use Rattle.xa_server.specs.Serving.{HaveReplies, RepliesBy}
use Rattle.xa_server.specs.Standing.{LacksMemory, OnlyTells, StandsFor}
use Rattle.xa_server.specs.Votes.{AreVotes, VotesBy, VotesFor, is_heard}
use Rattle.xa_server.specs.declared.server.Server.{Server}
use Rattle.xa_line.specs.Grid.{line_at}
use Rattle.xa_line.specs.Histories.{known}
use Rattle.xa_log.specs.Contract.{Moment}
use Rattle.xa_model.specs.Facts.HeardAnswers.{says_yes_in}
use Rattle.xa_model.specs.Facts.InDoubt.{name_by}
use Rattle.xa_model.specs.Replies.History.{name_of}
use Rattle.xa_model.specs.Replies.Steps.{accepted}
use Rattle.xa_model.specs.Trace.{Call as KnownCall, Happening.Heard, line}
use Rattle.xa_requests.specs.declared.request.CallName.{CallName}
use Rattle.xa_requests.specs.declared.request.Request.{Request}
use Rattle.xa_requests.specs.declared.request.Request.TheVariants as requests
use Rattle.xa_requests.specs.declared.response.RequestFault.TheVariants as faults
use Rattle.xa_requests.specs.declared.response.Response.{Response}
use Rattle.xa_requests.specs.declared.response.Response.TheVariants as responses
use Rattle.xa_session.specs.declared.session.Session.{Session}
use Rattle.xa_session.specs.declared.session.answers.Unfit.{Unfit}
use Rattle.xa_session.specs.declared.session.answers.Unfit.TheVariants as Unfits
use Rattle.xa_tm.specs.Book.{Book, after}
use Rattle.xa_tm.specs.Starting.{no_transaction_notes}
use Rattle.xa_tm.specs.Calls.{book_in}
use Rattle.xa_tm.specs.Release.{book_without}

-- ** a vote

-- the branch that two identifiers that are the same name
prepared : (x : Xid) (o : Option Xid) (b : Option Branch) (c : KnownCall) (g : Gtrid) → branch_of_xid x ≡ b → are_same (Some x) o ≡ true
    → accepted (Calls.Prepare (name_by x b)) ≡ Some c → option_map (λ (d : Branch). d.gtrid) (option_and_then branch_of_xid o) ≡ Some g
    → says_yes_in g c (Ret Success) ≡ true
prepared x None b c g at same is of = absurd (cc)
prepared x (Some y) None c g at same is of = absurd (cc)
prepared x (Some y) (Some b) c g at same is of =
    let xy : x ≡ y = xid_eq-same x y same in
    let there : branch_of_xid y ≡ Some b = ap branch_of_xid (sym xy) ∙ at in
    let named : Some b.gtrid ≡ Some g = ap (option_map (λ (d : Branch). d.gtrid)) (sym there) ∙ of in
    let own : b.gtrid ≡ g = cc in
    let call : Calls.Prepare b ≡ c = cc in
    subst (λ (d : KnownCall). says_yes_in g d (Ret Success) ≡ true) call (subst (λ h. gtrid_eq b.gtrid h ≡ true) own (gtrid_eq-refl b.gtrid))

-- the call has a name of this kind
abbrev other_kind : Call Xid → CallName → CallKind → Bool
other_kind call name kind = are_alike (kind_of call) kind && are_same (xid_in call) name.xid

-- an answer to a call of this name is a vote for the transaction
vote_says : (call : Call Xid) (name : CallName) (c : KnownCall) (g : Gtrid) → is_to call name ≡ true → known call ≡ Some c → name.kind ≡ Kinds.Prepare
    → transaction_of name ≡ Some g → says_yes_in g c (Ret Success) ≡ true
vote_says (Calls.Prepare x) name c g to is kind of =
    prepared x name.xid (branch_of_xid x) c g refl (and_parts _ _ to).1 is of
vote_says Calls.OpenRm name c g to is kind of = absurd (true≢false (sym (subst (λ k. other_kind Calls.OpenRm name k ≡ true) kind to)))
vote_says Calls.CloseRm name c g to is kind of = absurd (true≢false (sym (subst (λ k. other_kind Calls.CloseRm name k ≡ true) kind to)))
vote_says (Calls.Start x j) name c g to is kind of = absurd (true≢false (sym (subst (λ k. other_kind (Calls.Start x j) name k ≡ true) kind to)))
vote_says (Calls.End x j) name c g to is kind of = absurd (true≢false (sym (subst (λ k. other_kind (Calls.End x j) name k ≡ true) kind to)))
vote_says (Calls.Commit x o) name c g to is kind of = absurd (true≢false (sym (subst (λ k. other_kind (Calls.Commit x o) name k ≡ true) kind to)))
vote_says (Calls.Rollback x) name c g to is kind of = absurd (true≢false (sym (subst (λ k. other_kind (Calls.Rollback x) name k ≡ true) kind to)))
vote_says (Calls.Forget x) name c g to is kind of = absurd (true≢false (sym (subst (λ k. other_kind (Calls.Forget x) name k ≡ true) kind to)))
vote_says (Calls.Recover n x y) name c g to is kind of = absurd (true≢false (sym (subst (λ k. other_kind (Calls.Recover n x y) name k ≡ true) kind to)))

-- ** what the book recalls

-- a vote for the transaction is noted, or nothing is noted of it any more
abbrev pub Recalls : Book → Gtrid → Type 0
Recalls k g = ((k.transaction g).has_yes ≡ true) ⊎ ((k.transaction g).begun ≡ false)

released : (k : Book) (h g : Gtrid) → Recalls k g → Recalls (book_without h k) g
released k h g recalls = by (gtrid_eq h g) refl recalls
  where
    by : (t : Bool) → gtrid_eq h g ≡ t → Recalls k g → Recalls (book_without h k) g
    by true is was = inr (ap (λ (t : Bool). (if t then no_transaction_notes else k.transaction g).begun) is)
    by false is (inl said) = inl (ap (λ (t : Bool). (if t then no_transaction_notes else k.transaction g).has_yes) is ∙ said)
    by false is (inr gone) = inr (ap (λ (t : Bool). (if t then no_transaction_notes else k.transaction g).begun) is ∙ gone)

module _ {L : Type 0} where
  all_released : (hs : List Gtrid) (mid new : Server L) (g : Gtrid) → ReleasesAll hs mid new → Recalls (book_in mid.session.manager) g
      → Recalls (book_in new.session.manager) g
  all_released [] mid new g same was = subst (λ (c : Server L). Recalls (book_in c.session.manager) g) (sym same) was
  all_released (h ∷ hs) mid new g (next, inl (forgets, rest), more) was =
      all_released hs next new g more (subst (λ k. Recalls k g) (sym forgets.book) (released (book_in mid.session.manager) h g was))
  all_released (h ∷ hs) mid new g (next, inr (open_still, same), more) was =
      all_released hs next new g more (subst (λ (c : Server L). Recalls (book_in c.session.manager) g) (sym same) was)

  -- an answer that is heard
  heard_recalls : (t r : ℕ) (name : CallName) (answer : Answer Xid) (old new : Session L) (g : Gtrid) (x : Unit {0})
      → waits_for_other old.lines t r name ≡ false → Hears t r answer old new (Ok x)
      → VotesFor (requests.Answer t r name answer) g ⊎ Recalls (book_in old.manager) g → Recalls (book_in new.manager) g
  heard_recalls t r name answer old new g x same does was =
      let first = known_first old t r answer does.allowed in
      let c = first.known_so.0 in
      let book = (does.heard c (first.call, first.waits, first.known_so.1)).book in
      subst (λ k. Recalls k g) (sym book) (by c (vote_so first.call c first.known_so.1 first.waits) was)
    where
      vote_so : (call : Call Xid) (c : KnownCall) → known call ≡ Some c → slice_get (line_at old.lines t r).calls.waiting 0 ≡ Some call
          → VotesFor (requests.Answer t r name answer) g → says_yes_in g c (map_answer name_of answer) ≡ true
      vote_so call c is waits votes =
          subst (λ a. says_yes_in g c (map_answer name_of a) ≡ true) (sym votes.1)
          (vote_says call name c g (named_first old t r answer name call does.allowed waits same) is votes.0 votes.2)

      by : (c : KnownCall) → (VotesFor (requests.Answer t r name answer) g → says_yes_in g c (map_answer name_of answer) ≡ true)
          → VotesFor (requests.Answer t r name answer) g ⊎ Recalls (book_in old.manager) g
          → Recalls (after (book_in old.manager) (Heard (line t r) c (map_answer name_of answer))) g
      by c says (inl votes) = inl (or_left _ _ (says votes))
      by c says (inr (inl said)) = inl (or_right _ _ said)
      by c says (inr (inr gone)) = inr gone

  answer_recalls : (t r : ℕ) (name : CallName) (answer : Answer Xid) (old mid : Server L) (reply : Response) (g : Gtrid) → is_heard reply ≡ true
      → PerformsAnswer t r name answer old reply mid → VotesFor (requests.Answer t r name answer) g ⊎ Recalls (book_in old.session.manager) g
      → Recalls (book_in mid.session.manager) g
  answer_recalls t r name answer old mid reply g heard performs was = by (waits_for_other old.session.lines t r name) refl performs
    where
      told_so : Response
      told_so = responses.Heard name.kind (answer_number answer)

      result_is : (result : Result (Unit {0}) Unfit) → waits_for_other old.session.lines t r name ≡ false → Hears t r answer old.session mid.session result
          → is_heard (answer_reply told_so result) ≡ true → Recalls (book_in mid.session.manager) g
      result_is (Ok x) is does e = heard_recalls t r name answer old.session mid.session g x is does was
      result_is (Err (Unfits.Refused n)) is does e = absurd (true≢false (sym e))
      result_is (Err Unfits.NothingWaits) is does e = absurd (true≢false (sym e))
      result_is (Err Unfits.NoSuchAnswer) is does e = absurd (true≢false (sym e))
      result_is (Err (Unfits.NoSuchState b)) is does e = absurd (true≢false (sym e))

      by : (other : Bool) → waits_for_other old.session.lines t r name ≡ other
          → MatchBool other (OnlyTells (responses.Fault faults.OtherCall) old reply mid)
          (StandsFor (Hears t r answer) (answer_reply told_so) old reply mid ⊎ LacksMemory old reply mid)
          → Recalls (book_in mid.session.manager) g
      by true is fault = absurd (true≢false (sym (subst (λ q. is_heard q ≡ true) fault.0 heard)))
      by false is (inl stands) = result_is stands.result is stands.does (subst (λ q. is_heard q ≡ true) stands.told heard)
      by false is (inr lacks) = absurd (true≢false (sym (subst (λ q. is_heard q ≡ true) lacks.0 heard)))

  -- a line that tells a vote, and is heard
  line_recalls : (moment : L → Moment) (request : Option Request) (h g : Gtrid) (old new : Server L) (reply : Response) → VotesBy request h
      → is_heard reply ≡ true → RepliesBy moment request old reply new → (h ≡ g) ⊎ Recalls (book_in old.session.manager) g
      → Recalls (book_in new.session.manager) g
  line_recalls moment None h g old new reply votes heard replied was = absurd votes
  line_recalls moment (Some (requests.Answer t r name answer)) h g old new reply votes heard replied was =
      all_released _ replied.mid new g replied.releases
      (answer_recalls t r name answer old replied.mid reply g heard replied.does (by was))
    where
      by : (h ≡ g) ⊎ Recalls (book_in old.session.manager) g
          → VotesFor (requests.Answer t r name answer) g ⊎ Recalls (book_in old.session.manager) g
      by (inl same) = inl (subst (VotesFor (requests.Answer t r name answer)) same votes)
      by (inr before) = inr before
  line_recalls moment (Some (requests.Begin t)) h g old new reply votes heard replied was = absurd votes
  line_recalls moment (Some (requests.Issue t r call)) h g old new reply votes heard replied was = absurd votes
  line_recalls moment (Some (requests.Decide gs o)) h g old new reply votes heard replied was = absurd votes
  line_recalls moment (Some (requests.Claim i)) h g old new reply votes heard replied was = absurd votes
  line_recalls moment (Some (requests.Settle i)) h g old new reply votes heard replied was = absurd votes
  line_recalls moment (Some (requests.Abandon i)) h g old new reply votes heard replied was = absurd votes
  line_recalls moment (Some (requests.Done gs)) h g old new reply votes heard replied was = absurd votes
  line_recalls moment (Some (requests.Resolve r)) h g old new reply votes heard replied was = absurd votes
  line_recalls moment (Some (requests.ResolveOpen r)) h g old new reply votes heard replied was = absurd votes
  line_recalls moment (Some (requests.Waiting t r)) h g old new reply votes heard replied was = absurd votes
  line_recalls moment (Some (requests.Owed r)) h g old new reply votes heard replied was = absurd votes
  line_recalls moment (Some (requests.CrashLine t r)) h g old new reply votes heard replied was = absurd votes
  line_recalls moment (Some (requests.CrashRm r)) h g old new reply votes heard replied was = absurd votes
  line_recalls moment (Some requests.Status) h g old new reply votes heard replied was = absurd votes
  line_recalls moment (Some requests.Quit) h g old new reply votes heard replied was = absurd votes

  -- votes that are told one behind another
  pub votes_recall : (moment : L → Moment) (votes : List (List ℕ)) (heard : List Response) (gs : List Gtrid) (g : Gtrid) (old new : Server L)
      → AreVotes votes heard gs → HaveReplies moment votes heard old new → (is_gtrid_among gs g ≡ true) ⊎ Recalls (book_in old.session.manager) g
      → Recalls (book_in new.session.manager) g
  votes_recall moment [] [] [] g old new are have (inl among) = absurd (true≢false (sym among))
  votes_recall moment [] [] [] g old new are have (inr was) = subst (λ (c : Server L). Recalls (book_in c.session.manager) g) (sym have) was
  votes_recall moment [] [] (h ∷ hs) g old new are have was = absurd are
  votes_recall moment [] (r ∷ rs) gs g old new are have was = absurd are
  votes_recall moment (l ∷ ls) [] gs g old new are have was = absurd are
  votes_recall moment (l ∷ ls) (r ∷ rs) [] g old new are have was = absurd are
  votes_recall moment (l ∷ ls) (r ∷ rs) (h ∷ hs) g old new are (next, replied, more) was =
      votes_recall moment ls rs hs g next new are.2 more (by (gtrid_eq h g) refl was)
    where
      recalled : (h ≡ g) ⊎ Recalls (book_in old.session.manager) g → Recalls (book_in next.session.manager) g
      recalled before = line_recalls moment (asked_in l) h g old next r are.0 are.1 replied before

      by : (t : Bool) → gtrid_eq h g ≡ t → ((gtrid_eq h g || is_gtrid_among hs g) ≡ true) ⊎ Recalls (book_in old.session.manager) g
          → (is_gtrid_among hs g ≡ true) ⊎ Recalls (book_in next.session.manager) g
      by t is (inr before) = inr (recalled (inr before))
      by true is (inl among) = inr (recalled (inl (gtrid_eq-true h g is)))
      by false is (inl among) = inl (subst (λ (b : Bool). (b || is_gtrid_among hs g) ≡ true) is among)
