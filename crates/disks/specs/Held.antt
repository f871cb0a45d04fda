-- What files in memory tell.
use Rattle.std.specs.Prelude.{ℕ, List, map, option_map}
use Rattle.disks.specs.Named.{Named}
use Rattle.disks.specs.declared.mem_disk.MemDisk.{MemDisk}
use Rattle.disks.specs.declared.mem_file.MemFile.{MemFile}

-- what a read of a file in memory gives
abbrev pub bytes_in : MemDisk → List ℕ
bytes_in disk = disk.contents.items

-- a file by its name
abbrev pub named : MemFile → Named
named file = record { name = file.name; contents = option_map bytes_in file.disk }

-- files by their names
abbrev pub names_of : List MemFile → List Named
names_of files = map named files
