-- How disks are taken out of volumes. Inside: no clause of `run` cites this.
use Rattle.std.specs.Prelude.{ℕ, ◌≡◌, ◌≤◌, List, [], ◌∷◌, Option, option_map, vec_capacity}
use Rattle.volume_files.specs.block_device.DiskSeen.{DiskSeen}
use Rattle.volume_files.specs.joined_disk.JoinedSeen.{IsSeenBy, joined_parts, joined_seen}
use Rattle.volume_files.specs.joined_disk.declared.joined.JoinedDisk.{JoinedDisk}
use Rattle.volume_files.specs.volume_disks.declared.single.Single.{Single}
use Rattle.run_outcome.specs.declared.members.Rooms.{Rooms}

-- There is room for two disks of each of ten volumes.
pub record HasMemberRooms {D : Type 0} (r : Rooms D) : Type 0 where
  pub no_member : r.members.items ≡ []
  pub members : 20 ≤ vec_capacity r.members
  pub none_back : r.back.items ≡ []
  pub back : 20 ≤ vec_capacity r.back

-- The disk that a volume stands for, or the two.
abbrev pub volume_parts : {D : Type 0} {disk : _} → JoinedDisk (Single D) disk → D × Option D
volume_parts v = ((joined_parts v).0.disk, option_map (λ (s : Single _). s.disk) (joined_parts v).1)

-- A volume is seen as the disk that it stands for, or as the two.
abbrev pub IsSeenByParts : {D : Type 0} {disk : _} → (D → DiskSeen) → JoinedDisk D disk → Type 0
IsSeenByParts seen v = IsSeenBy (seen (joined_parts v).0) (option_map seen (joined_parts v).1) (joined_seen seen v)

-- Disks under numbers, each under the one at its place; one behind the last number has 8, which no disk of files has.
abbrev pub numbered : {D : Type 0} → List ℕ → List D → List (ℕ × D)
numbered numbers [] = []
numbered [] (d ∷ disks) = (8, d) ∷ numbered [] disks
numbered (n ∷ numbers) (d ∷ disks) = (n, d) ∷ numbered numbers disks
