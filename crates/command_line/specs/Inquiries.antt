-- What the program says of itself. Public clauses cite this.
use Rattle.std.specs.Prelude.{ℕ, List, [], ◌∷◌, ◌++◌, codes}
use Rattle.command_line.specs.declared.inquiry.Inquiry.{Inquiry}
use Rattle.command_line.specs.declared.inquiry.Inquiry.TheVariants.{Help, Version}

-- The page of help.
unfoldable pub help_text : List ℕ
help_text = codes "usage: sunvm [WORDS] [SCRIPT]     runs a script: the file, or else standard input\n       sunvm --check [TRACE]      judges a trace\n\nwords:\n  --trace        print the trace too\n  --pageout N    make so many turns of the pageout daemon, 0 to 1000000\n  --make N       run the generated script of this number, and print its summary\n  --check        read a trace, and say whether its history is legal\n  --quiet        say nothing on standard error\n  --help, -h     print this page\n  --version      print the version, and the toolchain that proved it\n\nlines of a script before its first process:\n  frames 64                        page frames\n  swap 64                          swap slots\n  translations 256                 translations\n  disk 0 blank 8                   a disk of 8 blocks of zeros\n  disk 1 path disk.img             a disk over a file\n  join 0 mirror 1                  two disks as one: mirror or stripe\n  file a rw 0 2 68656c6c6f         a file of disk 0: 2 pages, and the bytes of hello\n\nlines of processes:\n  process                          begins a process\n  fork                             begins a child of it\n  end                              ends the process, or the child\n  wait                             waits for the children\n  map 0x2000 4096 rw shared a 0    maps a page of a file: any, private, zero\n  unmap 0x2000 4096                unmaps it\n  protect 0x2000 4096 r            says what may be done there: none, r, w, rw\n  sync 0x2000 4096                 has the disk get what was stored there\n  load 0x2000 1                    loads 1, 2 or 4 bytes\n  store 0x2000 1 0x4a              stores them\n  read a 0 5                       reads 5 bytes of a file, from the first on\n  write a 0 4a                     writes bytes there\n  truncate a 5                     makes it so long\n  # a comment                      stands on a line of its own\n\nstatuses:\n  0 the whole text was written     5 the input couldn't be read\n  2 the words aren't taken         6 the output couldn't be written\n  3 no script, or no trace         7 a disk failed, or couldn't be attached\n  4 a set-up rule is broken        8 memory ran out\n                                   9 the trace's history isn't legal\n\nThe manual is sunvm(1), in docs/sunvm.1; docs/formats.md has the formats in full.\n"

-- The version, and the toolchain and the logic with which it was proved.
unfoldable pub version_text : List ℕ
version_text = codes "sunvm 0.9.2, proved with rattle-kit-13f, logic dac8208d650f15bf\n"

-- The text that is asked for.
abbrev pub inquiry_text : Inquiry → List ℕ
inquiry_text Help = help_text
inquiry_text Version = version_text
