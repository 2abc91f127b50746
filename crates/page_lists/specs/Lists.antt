-- Two queues as the free list and the cache list. Inside: no public clause cites this.
use Rattle.std.specs.Prelude.{◌≡◌}
use Rattle.page_lists.specs.ListsSeen.{ListsSeen, AreApart}
use Rattle.page_lists.specs.Ring.{QueueSeen, IsQueue}

-- what callers see of two queues: their frames, and the order of each
abbrev pub lists_of : QueueSeen → QueueSeen → ListsSeen
lists_of free cached = record { frames = free.frames; free = free.order; cached = cached.order }

-- both queues are over the same frames, and none is on both
pub record AreSoundLists (free_queue cached_queue : QueueSeen) : Type 0 where
  pub free : IsQueue free_queue
  pub cached : IsQueue cached_queue
  pub frames : cached_queue.frames ≡ free_queue.frames
  pub apart : AreApart (lists_of free_queue cached_queue)
