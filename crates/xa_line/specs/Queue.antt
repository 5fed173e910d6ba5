-- What the two ends of a queue show. An end remembers itself as it was when the queue was new or
-- renewed, and what a ring says counts from there.
use Rattle.std.specs.Prelude.{◌≡◌, ℕ, ◌<◌, List, ◌++◌, length, drop}
use Rattle.rtrb.specs.Ring.{sent, known_free, producer_capacity, received, known_items, IsPair, SameProducer, SameConsumer}
use Rattle.xa_line.specs.Traffic.{places}
use Rattle.xa_line.specs.declared.inlet.Inlet.{Inlet}
use Rattle.xa_line.specs.declared.outlet.Outlet.{Outlet}

module _ {T : Type 0} where
  -- what went in since the queue was new or renewed, oldest first
  abbrev pub pushed : Inlet T → List T
  pushed e = drop (length (sent e.start.value)) (sent e.producer)

  -- what came out since then, oldest first
  abbrev pub popped : Outlet T → List T
  popped x = drop (length (received x.start.value)) (received x.consumer)

  -- the items that this end has seen to wait
  abbrev pub seen : Outlet T → List T
  seen x = known_items x.consumer

  -- the places that this end has seen to be free
  abbrev pub free : Inlet T → ℕ
  free e = known_free e.producer

  -- an end of the same queue, not renewed between
  abbrev pub SameInlet : Inlet T → Inlet T → Type 0
  SameInlet a b = SameProducer a.producer b.producer × (b.start ≡ a.start)

  abbrev pub SameOutlet : Outlet T → Outlet T → Type 0
  SameOutlet a b = SameConsumer a.consumer b.consumer × (b.start ≡ a.start)

  -- the two ends of one queue
  pub record AreEnds (e : Inlet T) (x : Outlet T) : Type 0 where
    pub pair : IsPair e.producer x.consumer
    pub capacity : producer_capacity e.producer ≡ places
    pub same_start : length (sent e.start.value) ≡ length (received x.start.value)

  -- the two are in one thread, and all that went in was seen where it comes out
  pub record SeesAll (e : Inlet T) (x : Outlet T) : Type 0 where
    pub ends : AreEnds e x
    pub all_seen : received x.consumer ++ seen x ≡ sent e.producer

  -- and a free place was seen, if there is one
  pub record IsReady (e : Inlet T) (x : Outlet T) : Type 0 where
    pub sees : SeesAll e x
    pub room : length (seen x) < places → 0 < free e
