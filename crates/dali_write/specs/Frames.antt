-- How many frames a checked access has.
use Rattle.std.specs.Prelude.{ℕ, ◌==◌, ◌*◌, ◌+◌, max, length}
use Rattle.dali_bus.specs.Hears.{up}
use Rattle.dali_write.specs.declared.pace.Pace.{Pace}
use Rattle.dali_write.specs.declared.pace.Pace.TheVariants.{Checked, Short}
use Rattle.dali_write.specs.Requests.{block, block_requests, read_requests, put_requests, write_requests}

-- the frames of a checked read
abbrev pub read_frames : ℕ
read_frames = length (read_requests 0 0)

-- the frames of a checked write
abbrev pub write_frames : ℕ
write_frames = length (write_requests 0 0 0)

-- the frames of a read of this many locations
abbrev pub row_frames : ℕ → ℕ
row_frames count = length (block_requests 0 (block 0 count))

-- the frames of a write to a location just after one to another
abbrev pub next_frames : Pace → ℕ → ℕ → ℕ
next_frames Checked before location = write_frames
next_frames Short before location = length (put_requests (up before == location) 0 0 0)

-- the frames of a read of the content format
abbrev pub format_frames : Pace → ℕ
format_frames Checked = 2 * read_frames
format_frames Short = row_frames 2

-- A miss takes no more frames than this: those of its try, and by the short plan six more, as its part of what it
-- takes to read a row again.
abbrev pub miss_frames : Pace → ℕ
miss_frames Checked = max read_frames write_frames
miss_frames Short = row_frames 16 + 6

-- A row that told another byte takes no more frames than this: by the short plan those of reading it again, two by two.
abbrev pub other_frames : Pace → ℕ
other_frames Checked = 0
other_frames Short = 8 * row_frames 2
