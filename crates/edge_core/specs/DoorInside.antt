-- What the fields of a door in memory stand for.
use Rattle.std.specs.Prelude.{◌≡◌, ◌+◌, ◌≤◌, ◌<◌, length, map, option_map, option_to_list, vec_len, vec_capacity}
use Rattle.std.specs.VecDeque.{deque_len}
use Rattle.std.specs.List.{All}
use Rattle.std.specs.Option.{ForSome}
use Rattle.edge_core.specs.Door.{MemoryDoorState}
use Rattle.edge_core.specs.LinkInside.{IsFresh, inputs_of}
use Rattle.edge_core.specs.declared.memory_door.MemoryDoor.TheInside.{Inside}

abbrev pub state_of : Inside → MemoryDoorState
state_of door =
    record {
      is_attached = door.attached;
      asked = door.asked;
      links = record {
        shut = map (λ bounded. bounded.link) door.shut.items;
        current = option_map (λ bounded. bounded.link) door.current;
        coming = inputs_of door.coming.items;
      };
      cut = door.cut;
      space = door.space;
      faults = door.plan;
    }

-- a read takes something, each link that isn't shut has the room, and each will have a place among those that are shut
pub record IsReady (door : Inside) : Type 0 where
  pub takes : 0 < door.cut
  pub fresh : All (IsFresh door.space) door.coming.items
  pub roomy : ForSome door.current (λ bounded. bounded.space ≡ door.space)
  pub places : vec_len door.shut + (length (option_to_list door.current) + deque_len door.coming) ≤ vec_capacity door.shut
