-- What resource managers do by themselves is nothing to a session.
use Rattle.std.proofs.Common.{◌≡◌, ℕ, refl}
use Rattle.xa_model.specs.Trace.{Branch, Happening.CompletedAlone, Happening.PutOff, Happening.Voted, How, Trace, Vote}
use Rattle.xa_monitor.specs.Seen.{Alone, Alone.Ends, Alone.NoMore, Alone.PutsOff, Alone.Votes}
use Rattle.xa_tm.specs.Book.{Book, after}
use Rattle.xa_tm.specs.Calls.{book_in}
use Rattle.xa_session.specs.Following.{StandsIn}
use Rattle.xa_session.specs.declared.session.Session.{Session}
use Rattle.xa_session.proofs.Following.{IsOwn, own_goes_in}

own_vote : (tr : Trace) (b : Branch) (v : Vote) → IsOwn tr (Voted b v)
own_vote tr b v =
    record { unbroken = λ l. refl; calls = λ l. refl; taken = λ l. refl; heard = λ l. refl; rms_up = λ r. refl; origin = refl; doubt = refl }

own_put_off : (tr : Trace) (b : Branch) (n : ℕ) → IsOwn tr (PutOff b n)
own_put_off tr b n =
    record { unbroken = λ l. refl; calls = λ l. refl; taken = λ l. refl; heard = λ l. refl; rms_up = λ r. refl; origin = refl; doubt = refl }

own_end : (tr : Trace) (b : Branch) (how : How) → IsOwn tr (CompletedAlone b how)
own_end tr b how =
    record { unbroken = λ l. refl; calls = λ l. refl; taken = λ l. refl; heard = λ l. refl; rms_up = λ r. refl; origin = refl; doubt = refl }

vote_kept : (k : Book) (b : Branch) (v : Vote) → k ≡ after k (Voted b v)
vote_kept k b v = refl

put_off_kept : (k : Book) (b : Branch) (n : ℕ) → k ≡ after k (PutOff b n)
put_off_kept k b n = refl

end_kept : (k : Book) (b : Branch) (how : How) → k ≡ after k (CompletedAlone b how)
end_kept k b how = refl

-- a session that stood before it stands after it
pub alone_stands : {L : Type 0} (s : Session L) (tr now : Trace) → Alone tr now → StandsIn tr s → StandsIn now s
alone_stands s tr _ NoMore stands = stands
alone_stands s tr _ (Votes now b v a) stands =
    own_goes_in s s now (Voted b v) (alone_stands s tr now a stands) tt (own_vote now b v) tt (vote_kept (book_in s.manager) b v) refl
alone_stands s tr _ (PutsOff now b n a) stands =
    own_goes_in s s now (PutOff b n) (alone_stands s tr now a stands) tt (own_put_off now b n) tt (put_off_kept (book_in s.manager) b n) refl
alone_stands s tr _ (Ends now b how a p) stands =
    own_goes_in s s now (CompletedAlone b how) (alone_stands s tr now a stands) p (own_end now b how) tt (end_kept (book_in s.manager) b how) refl
