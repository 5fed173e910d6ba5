-- Acts one after another.
use Rattle.std.proofs.Common.{◌≡◌, ◌∙◌, ℕ, Bool, true, false, List, [], ◌∷◌, ◌++◌, ap, append-nil, append_assoc, inl, inr, refl, subst, sym}
use Rattle.std.proofs.lemmas.Bool.{or_cases, or_left, or_right}
use Rattle.std.proofs.lemmas.List.Folds.{list_any-append}
use Rattle.std.specs.List.{list_any}
use Rattle.std.specs.Prelude.{Option, Some, if◌then◌else◌}
use Rattle.xa_log.specs.Contract.{Moment}
use Rattle.xa_requests.specs.declared.request.Request.{Request}
use Rattle.xa_requests.specs.declared.response.Response.{Response}
use Rattle.xa_server.specs.Lines.{asked_in}
use Rattle.xa_server.specs.Performing.{Performs}
use Rattle.xa_server.specs.Serving.{HaveReplies, RepliesBy}
use Rattle.xa_server.specs.declared.server.Server.{Server}
use Rattle.xa_conduct.proofs.DecidedLemmas.{any_before}
use Rattle.xa_conduct.specs.Acting.{Acts, done_by, done_of, is_done}
use Rattle.xa_conduct.specs.Decided.{AsksNoLess}
use Rattle.xa_conduct.specs.Plain.{PlainRequestsHaveLines, is_plain}

-- with the same more behind both
no_less_both : (old new more : List Request) → AsksNoLess old new → AsksNoLess (old ++ more) (new ++ more)
no_less_both old new more keeps p among =
    list_any-append p new more
    ∙ elim (or_cases (list_any p old) (list_any p more) (sym (list_any-append p old more) ∙ among)) [
      | inl before ↦ or_left (list_any p new) (list_any p more) (keeps p before)
      | inr here ↦ or_right (list_any p new) (list_any p more) here
    ]

module _ {L : Type 0} (moment : L → Moment) where
  pub both_replied : (ls : List (List ℕ)) (rs : List Response) (ms : List (List ℕ)) (ss : List Response) (a b c : Server L)
      → HaveReplies moment ls rs a b → HaveReplies moment ms ss b c → HaveReplies moment (ls ++ ms) (rs ++ ss) a c
  both_replied [] [] ms ss a b c first second = subst (λ x. HaveReplies moment ms ss x c) first second
  both_replied [] (r ∷ rs) ms ss a b c first second = absurd first
  both_replied (l ∷ ls) [] ms ss a b c first second = absurd first
  both_replied (l ∷ ls) (r ∷ rs) ms ss a b c first second = (first.0, first.1, both_replied ls rs ms ss first.0 b c first.2 second)

  -- what was done with a line more
  done_more : (ls : List (List ℕ)) (rs : List Response) (l : List ℕ) (r : Response) (a b : Server L) → HaveReplies moment ls rs a b
      → done_of (ls ++ l ∷ []) (rs ++ r ∷ []) ≡ done_of ls rs ++ done_by (asked_in l) r
  done_more [] [] l r a b have = append-nil (done_by (asked_in l) r)
  done_more [] (s ∷ rs) l r a b have = absurd have
  done_more (k ∷ ls) [] l r a b have = absurd have
  done_more (k ∷ ls) (s ∷ rs) l r a b have =
      ap (λ x. done_by (asked_in k) s ++ x) (done_more ls rs l r have.0 b have.2)
      ∙ sym (append_assoc (done_by (asked_in k) s) (done_of ls rs) (done_by (asked_in l) r))

  pub none_act : (a : Server L) → Acts moment [] a a
  none_act a = record { lines = []; replies = []; replied = refl; asked = λ p among. among }

  -- less was done too
  pub less_acts : (less more : List Request) (a b : Server L) → AsksNoLess less more → Acts moment more a b → Acts moment less a b
  less_acts less more a b keeps acts = record {
    lines = acts.lines;
    replies = acts.replies;
    replied = acts.replied;
    asked = λ p among. acts.asked p (keeps p among);
  }

  -- a request more, as far as it was done
  one_by : PlainRequestsHaveLines → (request : Request) (a b : Server L) (reply : Response) (c : Server L) → is_plain request ≡ true
      → Performs moment request b reply c → (done : List Request) → Acts moment done a b → Acts moment (done ++ done_by (Some request) reply) a c
  one_by laws request a b reply c plain performs done before =
      let asked = laws request plain in
      let line = asked.0 in
      let one : HaveReplies moment (line ∷ []) (reply ∷ []) b c =
      (c, subst (λ (o : Option Request). RepliesBy moment o b reply c) (sym asked.1) performs, refl) in
      let more : done_of (before.lines ++ line ∷ []) (before.replies ++ reply ∷ []) ≡ done_of before.lines before.replies ++ done_by (Some request) reply =
      done_more before.lines before.replies line reply a b before.replied
      ∙ ap (λ (o : Option Request). done_of before.lines before.replies ++ done_by o reply) asked.1 in
      record {
        lines = before.lines ++ line ∷ [];
        replies = before.replies ++ reply ∷ [];
        replied = both_replied before.lines before.replies (line ∷ []) (reply ∷ []) a b c before.replied one;
        asked = subst (AsksNoLess (done ++ done_by (Some request) reply)) (sym more)
            (no_less_both done (done_of before.lines before.replies) (done_by (Some request) reply) before.asked);
      }

  -- a request more
  pub one_more : PlainRequestsHaveLines → (request : Request) (a b : Server L) (reply : Response) (c : Server L) → is_plain request ≡ true
      → Performs moment request b reply c → (done : List Request) → Acts moment done a b → Acts moment done a c
  one_more laws request a b reply c plain performs done before =
      less_acts done (done ++ done_by (Some request) reply) a c (λ p among. any_before p done (done_by (Some request) reply) among)
      (one_by laws request a b reply c plain performs done before)

  -- which was done
  pub one_done : PlainRequestsHaveLines → (request : Request) (a b : Server L) (reply : Response) (c : Server L) → is_plain request ≡ true
      → Performs moment request b reply c → is_done reply ≡ true → (done : List Request) → Acts moment done a b → Acts moment (done ++ request ∷ []) a c
  one_done laws request a b reply c plain performs is done before =
      subst (λ (v : Bool). Acts moment (done ++ (if v then request ∷ [] else [])) a c) is (one_by laws request a b reply c plain performs done before)

  -- nothing was done besides
  pub none_done : (a : Server L) (done : List Request) (first : Server L) → Acts moment done first a → Acts moment (done ++ []) first a
  none_done a done first acts = subst (λ (xs : List Request). Acts moment xs first a) (sym (append-nil done)) acts

  -- one behind those of a plan that were done
  pub plan_more : (first : List Request) (request : Request) (more : List Request) (a b c : Server L) → more ≡ first ++ request ∷ []
      → ((done : List Request) (s : Server L) → Acts moment done s a → Acts moment (done ++ first) s b)
      → ((done : List Request) (s : Server L) → Acts moment done s b → Acts moment (done ++ request ∷ []) s c)
      → (done : List Request) (s : Server L) → Acts moment done s a → Acts moment (done ++ more) s c
  plan_more first request more a b c is before after = λ done s acts.
      subst (λ (xs : List Request). Acts moment xs s c)
      (append_assoc done first (request ∷ []) ∙ ap (λ (xs : List Request). done ++ xs) (sym is)) (after (done ++ first) s (before done s acts))
